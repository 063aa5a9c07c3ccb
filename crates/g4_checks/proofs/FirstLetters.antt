-- Names with their first letter made upper case.
use Rattle.std.proofs.Common.{◌≡◌, ℕ, List, ◌++◌, encode_utf8, ap, sym, ◌∙◌}
use Rattle.std.specs.Str.{IsUtf8}
use Rattle.std.specs.StrCase.Upper.{str_to_uppercase}
use Rattle.std.proofs.lemmas.Str.{chars_past_char, encodes-chars}
use Rattle.g4_checks.specs.Labels.{capital, capitalised}

-- the first letter in upper case, and then the rest
pub capitalised_is : (name rest letter text : List ℕ) (c : ℕ) → IsUtf8 name → IsUtf8 rest → name ≡ encode_utf8 c ++ rest
    → letter ≡ str_to_uppercase (encode_utf8 c) → text ≡ letter ++ rest → text ≡ capitalised name
capitalised_is name rest letter text c name_utf8 rest_utf8 parts upper made =
    made ∙ (ap (λ (l : List ℕ). l ++ rest) upper
    ∙ (ap (λ (r : List ℕ). str_to_uppercase (encode_utf8 c) ++ r) (sym (encodes-chars rest rest_utf8))
    ∙ ap capital (sym (chars_past_char name rest c name_utf8 parts))))
