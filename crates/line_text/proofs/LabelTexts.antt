-- What stands behind a label.
use Rattle.std.proofs.Common.{◌≡◌, ℕ, List, ◌++◌, length, take, drop, Some, refl, sym, ap, ◌∙◌}
use Rattle.std.proofs.Common.{bytes_eq}
use Rattle.std.proofs.lemmas.List.{take-append-drop, take_at, drop_at}
use Rattle.ttp_world.proofs.NumberWords.{bytes_eq-same}
use Rattle.line_text.specs.Labels.{after_label}
use Rattle.line_text.proofs.Options.{guarded, some_same}
use Rattle.ttp_world.proofs.SmallTests.{spelled}

pub label-takes : (label bytes rest : List ℕ) → after_label label bytes ≡ Some rest → bytes ≡ label ++ rest
label-takes label bytes rest e =
    let g = guarded (bytes_eq (take (length label) bytes) label) (Some (drop (length label) bytes)) rest e in
    sym (take-append-drop (length label) bytes)
    ∙ ap (λ (t : List ℕ). t ++ drop (length label) bytes) (spelled (take (length label) bytes) label g.0)
    ∙ ap (λ (t : List ℕ). label ++ t) (some_same (drop (length label) bytes) rest g.1)

pub label-again : (label rest : List ℕ) → after_label label (label ++ rest) ≡ Some rest
label-again label rest =
    rw (take_at label rest (length label) refl, bytes_eq-same label)
    (ap (λ (r : List ℕ). Some r) (drop_at label rest (length label) refl))
