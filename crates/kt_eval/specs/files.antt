-- What files hold, what is seen of reads, and the stores that agree with the answers (`AgreeWith`). `Including` defines
-- which names an include asks for.
pub mod Files
pub mod Including
