-- The rings that hosts read before the first slot: each has nothing but the zeros.
use Rattle.trace_check.proofs.Words.{◌≡◌, ℕ, zero, suc, ◌+◌, ◌*◌, ◌<◌, [], ◌++◌, length, get_or, replicate, Some, inl}
use Rattle.trace_check.proofs.Words.{inr, ap, sym, ◌∙◌, arith, length-append, slice_get, get_or-append, mul_comm}
use Rattle.trace_check.proofs.Words.{cases_eq, get_or-append-add, length-replicate, get_or-map-range_with_len}
use Rattle.trace_check.proofs.Words.{length-map-range_with_len, mul-add-lt, same_Some, slice_get-get_or, Medl, Chosen}
use Rattle.trace_check.proofs.Words.{StatusWords, Script, nothing_chosen, Incoming, IsNewestMessage, TellsRings}
use Rattle.trace_check.proofs.Words.{first_payloads, zeros_chosen, all_zeros}
use Rattle.std.proofs.Math.Nat.{mul-suc}
use Rattle.std.proofs.lemmas.List.{get_or-replicate}

module _ (list : Medl) where
  abbrev n : ℕ
  n = length list.slots

  length-zeros : length (all_zeros list) ≡ length list.slots
  length-zeros = length-map-range_with_len (zeros_chosen list) 0 (length list.slots)

  pub length-first : (receivers : ℕ) → length (first_payloads list receivers) ≡ length list.slots * receivers
  length-first zero = omega arith
  length-first (suc receivers) =
      length-append (first_payloads list receivers) (all_zeros list)
      ∙ (λ i. length-first receivers i + length-zeros i)
      ∙ sym (mul-suc (length list.slots) receivers)

  pub first-at : (receivers k p : ℕ) → k < receivers → p < length list.slots
      → get_or (first_payloads list receivers) (k * length list.slots + p) nothing_chosen ≡ zeros_chosen list p
  first-at zero k p less node = absurd (omega (arith, less))
  first-at (suc receivers) k p less node =
      let width = length list.slots in
      let front = first_payloads list receivers in
      elim (cases_eq k receivers) as (λ _. get_or (front ++ all_zeros list) (k * width + p) nothing_chosen
      ≡ zeros_chosen list p) [
        | inl last ↦
            let many : length front ≡ k * width =
            length-first receivers ∙ ap (λ (j : ℕ). width * j) (sym last) ∙ mul_comm width k in
            ap (λ (j : ℕ). get_or (front ++ all_zeros list) (j + p) nothing_chosen) (sym many)
            ∙ get_or-append-add front (all_zeros list) p nothing_chosen
            ∙ get_or-map-range_with_len (zeros_chosen list) 0 width p p nothing_chosen node (omega arith)
        | inr earlier ↦
            let before : k < receivers = omega (arith, less, earlier) in
            let within : k * width + p < length front =
            omega (arith, length-first receivers, mul-add-lt k width p receivers before node) in
            get_or-append front (all_zeros list) nothing_chosen (k * width + p) within
            ∙ first-at receivers k p before node
      ]

newest-zeros : (list : Medl) (script : Script) (k p : ℕ) (message : Chosen) → message ≡ zeros_chosen list p
    → IsNewestMessage message list script [] k p
newest-zeros list script k p message is = record {
  number = ap (λ (c : Chosen). c.number) is;
  payload = ap (λ (c : Chosen). c.payload) is;
}

abbrev first_status : StatusWords
first_status = record { words = replicate 4 0 }

pub first-tells : (incoming : Incoming) (list : Medl) (script : Script) → length list.slots < 256
    → incoming.nodes ≡ length list.slots
    → incoming.payloads.items ≡ first_payloads list (length list.slots)
    → incoming.statuses.items ≡ replicate (length list.slots) (record { words = replicate 4 0 })
    → length incoming.floors.items ≡ length list.slots * (length list.slots + 1)
    → TellsRings incoming list script []
first-tells incoming list script few nodes payloads statuses floors =
    let width = length list.slots in
    let first = first_payloads list width in
    record {
      places = record {
        nodes = nodes;
        few = few;
        payloads = ap length payloads ∙ length-first list width;
        statuses = ap length statuses ∙ length-replicate width first_status;
        floors = floors;
      };
      payloads = λ k p node sender message at.
          let there : slice_get first (k * width + p) ≡ Some message =
          (λ i. slice_get (sym payloads i) (k * sym nodes i + p)) ∙ at in
          newest-zeros list script k p message
          (same_Some message (zeros_chosen list p)
          (sym there
          ∙ slice_get-get_or first (k * width + p) nothing_chosen
          (omega (arith, length-first list width, mul-add-lt k width p width node sender))
          ∙ ap Some (first-at list width k p node sender)));
      statuses = λ k node.
          ap (λ ss. slice_get ss k) statuses
          ∙ slice_get-get_or (replicate width first_status) k first_status
          (omega (arith, node, length-replicate width first_status))
          ∙ ap Some (get_or-replicate width k first_status first_status node);
    }
