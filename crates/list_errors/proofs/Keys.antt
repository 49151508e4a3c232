-- The keys of a table that no list has, one after another.
use Rattle.std.proofs.Common.{◌≡◌, ℕ, Option, List, [], ◌∷◌}
use Rattle.std.proofs.Common.{refl, ap, ◌∙◌, sym, map, String, Global, string_bytes}
use Rattle.std.specs.Prelude.{filter}
use Rattle.std.specs.Borrow.{Bor}
use Rattle.std.specs.Map.{keys_of}
use Rattle.toml.specs.View.{members_view}
use Rattle.toml.specs.declared.value.Value.{Value}
use Rattle.medl_text.specs.declared.error.FieldName.{FieldName}
use Rattle.list_errors.specs.declared.error.Wrong.{Wrong}
use Rattle.list_errors.specs.declared.error.Wrong.TheVariants as wrong
use Rattle.list_errors.specs.Errors.{is_unknown_key}
use Rattle.list_errors.specs.Errors.{keys_of as keys_in}

-- the keys of a table are those of its entries
pub keys_of_view : (es : List (String Global × Value)) → keys_in (members_view es) ≡ map string_bytes (keys_of es)
keys_of_view [] = refl
keys_of_view (e ∷ es) = ap (λ (keys : List (List ℕ)). string_bytes e.0 ∷ keys) (keys_of_view es)

-- what is told of some keys
abbrev pub told_of : Option ℕ → List FieldName → List (List ℕ) → List Wrong
told_of slot known keys = map (λ k. wrong.Unknown slot k) (filter (is_unknown_key known) keys)

texts_of : (ks : List (Bor (String Global)))
    → map (λ k. string_bytes k.now) ks ≡ map string_bytes (map (λ k. k.now) ks)
texts_of [] = refl
texts_of (k ∷ ks) = ap (λ (texts : List (List ℕ)). string_bytes k.now ∷ texts) (texts_of ks)

-- the keys that a loop over a table went over
pub told_all : (slot : Option ℕ) (known : List FieldName)
    (es : List (String Global × Value)) (ks : List (Bor (String Global)))
    → map (λ k. k.now) ks ≡ keys_of es
    → told_of slot known (map (λ k. string_bytes k.now) ks) ≡ told_of slot known (keys_in (members_view es))
told_all slot known es ks all =
    ap (told_of slot known) (texts_of ks ∙ ap (map string_bytes) all ∙ sym (keys_of_view es))
