-- Which bytes are printed as a text.
use Rattle.std.proofs.Common.{◌≡◌, ℕ, List, Bool, true, false, ap, ◌∙◌}
use Rattle.std.proofs.lemmas.Str.{IsUtf8-from_is_utf8, is_utf8-from_IsUtf8}
use Rattle.std.specs.Str.{IsUtf8, is_utf8}
use Rattle.serde_json.specs.Data.{Data as Json, string}
use Rattle.xdr_json.specs.Json.{hex_object, text_or_hex}

-- UTF-8 is printed as it stands
pub text_is : (bytes text : List ℕ) (j : Json) → IsUtf8 bytes → text ≡ bytes → j ≡ string text
    → j ≡ text_or_hex true bytes
text_is bytes text j utf8 same is = rw (is_utf8-from_IsUtf8 bytes utf8) (is ∙ ap string same)

-- other bytes are printed as hex
pub hex_is : (bytes : List ℕ) (j : Json) (b : Bool) → is_utf8 bytes ≡ b → (IsUtf8 bytes → ⊥) → j ≡ hex_object bytes
    → j ≡ text_or_hex true bytes
hex_is bytes j true test none is = absurd (none (IsUtf8-from_is_utf8 bytes test))
hex_is bytes j false test none is = rw test is
