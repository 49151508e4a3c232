-- The pieces of a campaign, and the whole.
use Rattle.lab_laws.proofs.Words.{◌≡◌, ℕ, true, ◌&&◌, List, [], ◌∷◌, ◌++◌, length, Option, Some, None, sym, ap}
use Rattle.lab_laws.proofs.Words.{subst, ◌∙◌, arith, codes, append_assoc, nat_le, map, flat_map, AllByRecursion}
use Rattle.lab_laws.proofs.Words.{and_parts, Lines, is_line, Medl, Event, Script, History, IsValid}
use Rattle.lab_laws.proofs.Words.{IsValidScript, ◌>>=◌, Span, summary, head_line, own_line, counts_line}
use Rattle.lab_laws.proofs.Words.{run_line, zeros_world, CampaignHead, Piece, without_feed, campaign_head_in}
use Rattle.lab_laws.proofs.Words.{head_of_line, no_runs, piece_begun, FaultTold, one_further, own_told}
use Rattle.std.specs.Prelude.{Ok}
use Rattle.std.specs.List.{concat}
use Rattle.std.proofs.lemmas.Bool.{leb-true}
use Rattle.ttp_base.proofs.Lines.{lines_of-concat}
use Rattle.campaign.specs.Tried.{faults_from}
use Rattle.whole_campaign.specs.declared.due.Due.TheVariants as due
use Rattle.whole_campaign.specs.Whole.{or_wrong, behind_own, behind_first, whole_of}
use Rattle.whole_campaign.specs.Whole.{campaign_from, campaign_in}
use Rattle.lab_laws.specs.Ranges.{IsRange, AreRanges, lines_over}
use Rattle.lab_laws.specs.TakenCampaign.{piece_over, faults_over, campaign_over}
use Rattle.lab_laws.proofs.WordsCut.{feed-again}
use Rattle.lab_laws.proofs.LinesRead.{head_text, head-ended, head-again}
use Rattle.lab_laws.proofs.Counted.{counted, counted-begun}
use Rattle.lab_laws.proofs.RunsRead.{common, own-line-ended, own-taken}
use Rattle.lab_laws.proofs.GoingOn.{GoesOn, ended-line, counts-lines, first-lines, no-lines}
use Rattle.lab_laws.proofs.Groups.{slots-goes}

module _ (list : Medl) (script : Script) (valid : IsValid list) (valid_script : IsValidScript list script) where
  -- the history of the script's own run, and the faults of a range
  abbrev own_history : History
  own_history = zeros_world list script script.slots

  abbrev events_over : Span → List Event
  events_over range = faults_from list script own_history range.first range.last

  -- the lines of a piece behind its first two
  abbrev lines_behind : Span → Lines → Lines
  lines_behind range rest =
      map (run_line list script) (events_over range)
      ++ counts_line (codes "kept ") (piece_over list script range).kept
      ∷ counts_line (codes "broken ") (piece_over list script range).broken
      ∷ rest

  range-goes : (range : Span) (rest : Lines) (faults : List FaultTold) (pieces : List Piece)
      → GoesOn (common list script) (due.Piece range.last) rest faults pieces
      → GoesOn (common list script) (piece_begun range.first range.last) (lines_behind range rest)
      (faults_over list script range ++ faults) (piece_over list script range ∷ pieces)
  range-goes range rest faults pieces goes =
      let events = events_over range in
      let P = piece_over list script range in
      let begun : Piece = record { first = range.first; last = range.last; kept = no_runs; broken = no_runs } in
      let kept = counts_line (codes "kept ") P.kept in
      let broken = counts_line (codes "broken ") P.broken in
      let same : counted list script begun events ≡ P = counted-begun list script range events in
      slots-goes list script valid valid_script own_history
      (λ slot. nat_le range.first slot && nat_le slot range.last) 0
      script.slots begun None (kept ∷ broken ∷ rest) faults (P ∷ pieces) (omega arith)
      (λ slot is. let parts = and_parts (nat_le range.first slot) (nat_le slot range.last) is in
      (leb-true range.first slot parts.0, leb-true slot range.last parts.1)) tt
      (λ after ends. subst
      (λ (p : Piece). GoesOn (common list script) (due.Fault p after)
      (kept ∷ broken ∷ rest) faults (P ∷ pieces)) (sym same)
      (counts-lines (common list script) P after rest faults pieces ends goes))

  lines-more : (range : Span) (ranges : List Span)
      → head_line list script range.first range.last
      ∷ own_line list (summary list script) ∷ lines_behind range (lines_over list script ranges)
      ≡ lines_over list script (range ∷ ranges)
  lines-more range ranges =
      let kept = counts_line (codes "kept ") (piece_over list script range).kept in
      let broken = counts_line (codes "broken ") (piece_over list script range).broken in
      ap (λ (ls : Lines). head_line list script range.first range.last ∷ own_line list (summary list script) ∷ ls)
      (sym (append_assoc (map (run_line list script) (events_over range)) (kept ∷ broken ∷ [])
      (lines_over list script ranges)))

  behind-goes : (range : Span) (ranges : List Span) → AreRanges (range ∷ ranges)
      → GoesOn (common list script) (piece_begun range.first range.last)
      (lines_behind range (lines_over list script ranges)) (flat_map (faults_over list script) (range ∷ ranges))
      (map (piece_over list script) (range ∷ ranges))
  behind-goes range [] are = range-goes range [] [] [] (no-lines (common list script) range.last)
  behind-goes range (next ∷ ranges) are =
      let others = flat_map (faults_over list script) (next ∷ ranges) in
      let more = map (piece_over list script) (next ∷ ranges) in
      let own = own-line-ended list script valid valid_script in
      range-goes range (lines_over list script (next ∷ ranges)) others more
      (subst (λ (ls : Lines). GoesOn (common list script) (due.Piece range.last) ls others more)
      (lines-more next ranges)
      (first-lines (common list script) range.last next.first next.last (head_line list script next.first next.last)
      (head_text list script next.first next.last) (own_line list (summary list script))
      (lines_behind next (lines_over list script ranges)) others more
      (head-ended list script next.first next.last valid valid_script are.2.0.order are.2.0.digits)
      (head-again list script next.first next.last valid valid_script are.2.0.order are.2.0.digits) are.1 own
      (behind-goes next ranges are.2)))

  -- The whole.

  head-taken : (range : Span) → IsRange range
      → head_of_line (head_line list script range.first range.last)
      ≡ Some (record { nodes = length list.slots; slots = script.slots; first = range.first; last = range.last })
  unfolding head_of_line
  head-taken range is =
      let text = head_text list script range.first range.last in
      ap (λ (line : List ℕ). without_feed line >>= campaign_head_in)
      (head-ended list script range.first range.last valid valid_script is.order is.digits).ends
      ∙ ap (λ (o : Option (List ℕ)). o >>= campaign_head_in) (feed-again text).0
      ∙ head-again list script range.first range.last valid valid_script is.order is.digits

  whole-taken : (range : Span) (ranges : List Span) → AreRanges (range ∷ ranges)
      → whole_of (head_line list script range.first range.last ∷ own_line list (summary list script)
      ∷ lines_behind range (lines_over list script ranges))
      ≡ Ok (campaign_over list script (range ∷ ranges))
  whole-taken range ranges are =
      let own = own_line list (summary list script) in
      let lines = lines_behind range (lines_over list script ranges) in
      let h : CampaignHead = record {
        nodes = length list.slots;
        slots = script.slots;
        first = range.first;
        last = range.last;
      } in
      let frame = common list script in
      let begun = piece_begun range.first range.last in
      let goes = behind-goes range ranges are in
      ap (behind_first (own ∷ lines)) (head-taken range are.0)
      ∙ ap (behind_own h lines) (own-taken list script valid valid_script)
      ∙ ap (λ (o : Option ℕ). or_wrong (campaign_from frame begun lines) (one_further (one_further o))) goes.right
      ∙ (λ i. Ok (record {
        nodes = length list.slots;
        slots = script.slots;
        own = own_told list script;
        pieces = goes.ends i;
        faults = goes.tells i;
      }))

  pub ranges-taken : (range : Span) (ranges : List Span) → AreRanges (range ∷ ranges)
      → campaign_in (concat (lines_over list script (range ∷ ranges))) ≡ Ok (campaign_over list script (range ∷ ranges))
  ranges-taken range ranges are =
      let head = head_line list script range.first range.last in
      let own = own_line list (summary list script) in
      let lines = lines_behind range (lines_over list script ranges) in
      let each : AllByRecursion (λ line. is_line line ≡ true) (head ∷ own ∷ lines) = (
        ended-line head (head_text list script range.first range.last)
            (head-ended list script range.first range.last valid valid_script are.0.order are.0.digits),
        (
          ended-line own (own_told list script).text (own-line-ended list script valid valid_script),
          (behind-goes range ranges are).are,
        ),
      ) in
      ap (λ (ls : Lines). campaign_in (concat ls)) (sym (lines-more range ranges))
      ∙ ap whole_of (lines_of-concat (head ∷ own ∷ lines) each) ∙ whole-taken range ranges are
