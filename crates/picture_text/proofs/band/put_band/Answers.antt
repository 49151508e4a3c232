use Rattle.picture_text.proofs.Words.{◌≡◌, ◌∙◌, ap, subst, ℕ, ◌+◌, ◌*◌, List, ◌++◌}
use Rattle.picture_text.proofs.Words.{[], ◌∷◌, map, codes, arith, below, row_line}
use Rattle.picture_text.proofs.Words.{Puts, row_y}
use Rattle.std.proofs.Common.{decimal}
use Rattle.ttp_base.proofs.Puts.{puts_both, puts_first, puts_two}
use Rattle.picture_text.proofs.Rows.{band_within}
use Rattle.picture_text.proofs.band.put_band.Goals as goal

pub overflow_mul-slot : goal.overflow_mul-slot
overflow_mul-slot g c =
    let within = band_within c.args.layout.span.first c.args.layout.span.last c.columns.result c.args.band
    c.args.layout.shown.0 c.columns.ensures.some.0 (rw c.columns.ensures.value c.requires) in
    omega (arith, within, c.args.layout.shown)

pub overflow_add-slot : goal.overflow_add-slot
overflow_add-slot g c =
    let within = band_within c.args.layout.span.first c.args.layout.span.last c.columns.result c.args.band
    c.args.layout.shown.0 c.columns.ensures.some.0 (rw c.columns.ensures.value c.requires) in
    omega (arith, within, c.args.layout.shown)

pub returns : goal.returns
returns g c =
    let n = c.args.layout.head.nodes in
    let t = c.args.layout.span.first + c.columns.result * c.args.band in
    let row : (name : List ℕ) (y : ℕ) (line : List ℕ) (r : ℕ) → line ≡ row_line (y + 18) name
    → y ≡ row_y n c.args.layout.span t r
    → line ≡ row_line (row_y n c.args.layout.span t r + 18) name =
    λ name y line r is at. is ∙ ap (λ (z : ℕ). row_line (z + 18) name) at in
    let puts = puts_both c.put_node_rows.ensures
    (puts_first (row (codes "members") _ _ n c.make_row.ensures c.row_y.ensures.value) c.write.ensures
    (puts_two (row (codes "clocks") _ _ (n + 1) c.make_row-2.ensures c.row_y-2.ensures.value)
    (row (codes "apart") _ _ (n + 2) c.make_row-3.ensures c.row_y-3.ensures.value)
    c.write-2.ensures c.write-3.ensures)) in
    subst (λ (m : ℕ). Puts c.args.sheet.now.failed (g.K.Sink.output c.args.out.now) c.write-3.new.self.failed
    (g.K.Sink.output c.write-3.new.out)
    (map (λ k. row_line (row_y n c.args.layout.span (c.args.layout.span.first + m * c.args.band) k + 14)
    (codes "node " ++ decimal k)) (below n)
    ++ row_line (row_y n c.args.layout.span (c.args.layout.span.first + m * c.args.band) n + 18) (codes "members")
    ∷ row_line (row_y n c.args.layout.span (c.args.layout.span.first + m * c.args.band) (n + 1) + 18) (codes "clocks")
    ∷ row_line (row_y n c.args.layout.span (c.args.layout.span.first + m * c.args.band) (n + 2) + 18) (codes "apart")
    ∷ [])) c.columns.ensures.value puts
