use Rattle.std.proofs.Common.{arith, ◌≡◌, ℕ, [], ◌∷◌, List, Some, slice_get, map, All, replicate}
use Rattle.std.proofs.lemmas.Grind.{common_steps}
use Rattle.nbw_ring.specs.declared.view.Message.{Message}
use Rattle.nbw_ring.specs.Numbers.{IsMessageOf}
use Rattle.uses.specs.Measured.{measured_words}
use Rattle.uses.proofs.ring.newest.newest_beside.Goals as goal

-- the first pair of a reader that was settled is a message of the writer
first_message : (own messages : List (List ℕ)) (got : List Message) (pair : Message) → All (IsMessageOf messages) got
    → Some pair ≡ slice_get got 0 → messages ≡ own → IsMessageOf own pair
first_message own messages [] pair whole is same = grind (arith, is)
first_message own messages (p ∷ got) pair whole is same = grind (arith, whole 0 pair, is, same)

pub returns-in-Some : goal.returns-in-Some
returns-in-Some g c =
    let own = replicate 2 0 ∷ map measured_words c.args.measured.now in
    let same : c.write_and_read-writer.result.0.messages ≡ own = grind (arith, common_steps) in
    record {
      seen = c.seen_in.ensures (replicate 2 0) c.args.measured.now
          (first_message own _ _ c.in-Some.pair c.in-Some.ensures.whole c.in-Some.ensures.pair same);
    }
