use Rattle.chart_text.proofs.Words.{◌∙◌, ap, arith, refl, map, counts_sum, has_mark}
use Rattle.campaign.specs.declared.cost.Counts.{Counts}
use Rattle.whole_campaign.specs.Readable.{counts_together}
use Rattle.chart_text.proofs.PieceCounts.{none-first, none-marked, piece-added, piece-fits, piece-marked, none-left}
use Rattle.chart_text.proofs.sums.sums_of.Goals as goal

pub loop-piece-init : goal.loop-piece-init
loop-piece-init c =
    let kept = counts_sum (map (λ piece. piece.kept) c.args.pieces) in
    let broken = counts_sum (map (λ piece. piece.broken) c.args.pieces) in
    record {
      marks = λ t less. refl;
      kept = ap (λ (none : Counts). counts_together none kept) c.no_runs.ensures ∙ none-first kept;
      broken = ap (λ (none : Counts). counts_together none broken) c.no_runs-2.ensures ∙ none-first broken;
    }

pub added-requires : goal.added-requires
added-requires c =
    piece-fits (λ piece. piece.kept) c.loop-piece.sums.kept (counts_sum (map (λ piece. piece.kept) c.args.pieces))
    c.loop-piece.left c.next_piece.new.self c.in-Some.piece c.in-Some.ensures.some c.loop-piece.invariant.kept
    c.requires.kept

pub added-requires-in-Some : goal.added-requires-in-Some
added-requires-in-Some c =
    piece-fits (λ piece. piece.broken) c.loop-piece.sums.broken
    (counts_sum (map (λ piece. piece.broken) c.args.pieces)) c.loop-piece.left c.next_piece.new.self c.in-Some.piece
    c.in-Some.ensures.some c.loop-piece.invariant.broken c.requires.broken

pub loop-piece-preserved : goal.loop-piece-preserved
loop-piece-preserved c =
    let rest = c.next_piece.new.self in
    record {
      marks = λ t less.
          piece-marked t (has_mark c.loop-piece.marks t) (has_mark c.mark_piece.new.marks t) _ c.loop-piece.left rest
          c.in-Some.piece c.in-Some.ensures.some
          (c.mark_piece.ensures t (omega arith)) (c.loop-piece.invariant.marks t less);
      kept =
          ap (λ (sum : Counts). counts_together sum (counts_sum (map (λ piece. piece.kept) rest))) c.added.ensures
          ∙ piece-added (λ piece. piece.kept) c.loop-piece.sums.kept
          (counts_sum (map (λ piece. piece.kept) c.args.pieces)) c.loop-piece.left rest c.in-Some.piece
          c.in-Some.ensures.some c.loop-piece.invariant.kept;
      broken =
          ap (λ (sum : Counts). counts_together sum
          (counts_sum (map (λ piece. piece.broken) rest))) c.added-in-Some.ensures
          ∙ piece-added (λ piece. piece.broken) c.loop-piece.sums.broken
          (counts_sum (map (λ piece. piece.broken) c.args.pieces)) c.loop-piece.left rest c.in-Some.piece
          c.in-Some.ensures.some c.loop-piece.invariant.broken;
    }

pub returns-clause-kept : goal.returns-clause-kept
returns-clause-kept c =
    none-left (λ piece. piece.kept) c.loop-piece.sums.kept (counts_sum (map (λ piece. piece.kept) c.args.pieces))
    c.loop-piece.left (c.in_default.ensures.none refl) c.loop-piece.invariant.kept

pub returns-clause-broken : goal.returns-clause-broken
returns-clause-broken c =
    none-left (λ piece. piece.broken) c.loop-piece.sums.broken
    (counts_sum (map (λ piece. piece.broken) c.args.pieces)) c.loop-piece.left (c.in_default.ensures.none refl)
    c.loop-piece.invariant.broken

pub returns-clause-marks : goal.returns-clause-marks
returns-clause-marks c t less =
    none-marked t (has_mark c.loop-piece.marks t) _ c.loop-piece.left (c.in_default.ensures.none refl)
    (c.loop-piece.invariant.marks t less)
