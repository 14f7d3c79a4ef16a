-- A text between single quotes is read back.
use Rattle.std.proofs.Common.{◌≡◌, ℕ, Bool, ◌==◌, if◌then◌else◌, [], ◌∷◌, ◌++◌, Some, refl, ap, ◌∙◌, append_assoc, arith, flat_map}
use Rattle.kt_recipe.proofs.Common.{eqb-true, Text}
use Rattle.kt_recipe.specs.Quoting.{quoted_byte, quoted}
use Rattle.kt_recipe_laws.specs.Quoting.{inside, read_quotes, word_of_quotes}

-- one byte more between quotes
byte_read : (byte : ℕ) (more word : Text) → read_quotes inside more ≡ Some word → (b : Bool) → byte == 39 ≡ b
    → read_quotes inside ((if b then 39 ∷ 92 ∷ 39 ∷ 39 ∷ [] else byte ∷ []) ++ more) ≡ Some (byte ∷ word)
unfolding read_quotes
byte_read byte more word h b is = grind (arith, eqb-true)

rest_read : (text : Text) → read_quotes inside (flat_map quoted_byte text ++ (39 ∷ [])) ≡ Some text
unfolding read_quotes
rest_read [] = refl
rest_read (byte ∷ text) =
    ap (read_quotes inside) (append_assoc (quoted_byte byte) (flat_map quoted_byte text) (39 ∷ []))
    ∙ byte_read byte (flat_map quoted_byte text ++ (39 ∷ [])) text (rest_read text) (byte == 39) refl

pub read_back : (text : Text) → word_of_quotes (quoted text) ≡ Some text
unfolding read_quotes quoted
read_back text = rest_read text
