use Rattle.std.proofs.Common.{◌≡◌, ◌∷◌, ◌-◌, get_or, le_refl, leb, rules, arith}
use Rattle.std.proofs.lemmas.List.Sorted.{IsPartitionPoint-from_clause, IsPartitionedBy-leb}
use Rattle.std.proofs.lemmas.List.Sums.{prefix_len_is}
use Rattle.std.specs.List.Sorted.{IsNonDecreasingBy}
use Rattle.list_places.specs.Lines.{starts_from}
use Rattle.list_places.proofs.Lining.{up_to, lines_rise, place_is}
use Rattle.list_places.proofs.lines.place_within.Goals as goal

pub returns : goal.returns
returns c =
    let text = c.args.text.now in
    let starts = c.args.starts.now in
    let lines : starts ≡ 0 ∷ starts_from 0 text = c.requires.lines in
    let rise : IsNonDecreasingBy (λ s. s) starts = rw lines (lines_rise text) in
    let parted = IsPartitionedBy-leb (λ s. s) starts c.args.at rise in
    let point = IsPartitionPoint-from_clause (λ s. leb s c.args.at) starts _
    c.partition_point-line.ensures.partitioned parted (λ a r q k. search rules) in
    let count : up_to c.args.at starts ≡ c.partition_point-line.result =
    prefix_len_is (λ s. leb s c.args.at) starts _ 0 c.partition_point-line.ensures.bound
    (λ k l. point.0 k 0 (omega arith) l) (λ l. point.1 _ 0 (omega arith) l) in
    let got = c.get.ensures.lookup.4 (le_refl _) 0 in
    let read : c.unwrap_or-start.result ≡ get_or starts (c.partition_point-line.result - 1) 0 =
    rw (c.unwrap_or-start.ensures, c.copied.ensures) (rw c.saturating_sub.ensures at got) in
    rw c.saturating_sub-2.ensures
    (place_is text c.args.at c.partition_point-line.result c.unwrap_or-start.result
    c.requires.within (rw lines at count) (rw lines at read))
