-- A text that is gathered from the left, piece by piece, is its pieces one behind the other.
use Rattle.std.proofs.Common.{◌≡◌, ℕ, false, List, [], ◌∷◌, ◌++◌, sym, ap, ◌∙◌}
use Rattle.std.specs.List.{concat, list_any}
use Rattle.std.proofs.lemmas.Bool.{or_parts}
use Rattle.std.proofs.lemmas.List.{append_assoc, append-nil}
use Rattle.ttp_base.specs.Text.{gather}
use Rattle.ttp_base.proofs.Numerals.{has, has-append}

pub gathered : (text : List ℕ) (pieces : List (List ℕ)) → gather text pieces ≡ text ++ concat pieces
gathered text [] = sym (append-nil text)
gathered text (piece ∷ pieces) = gathered (text ++ piece) pieces ∙ append_assoc text piece (concat pieces)

pub gather-behind : (text : List ℕ) (pieces : List (List ℕ)) → text ++ gather [] pieces ≡ gather text pieces
gather-behind text pieces = ap (λ (t : List ℕ). text ++ t) (gathered [] pieces) ∙ sym (gathered text pieces)

-- pieces without a byte make a text without it
pub has-gather : (b : ℕ) (text : List ℕ) (pieces : List (List ℕ)) → has b text ≡ false → list_any (has b) pieces ≡ false
    → has b (gather text pieces) ≡ false
has-gather b text [] none each = none
has-gather b text (piece ∷ pieces) none each =
    let parts = or_parts (has b piece) (list_any (has b) pieces) each in
    has-gather b (text ++ piece) pieces (has-append b text piece none parts.0) parts.1
