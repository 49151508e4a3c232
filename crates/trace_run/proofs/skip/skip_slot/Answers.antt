use Rattle.std.proofs.Common.{◌≡◌, ◌∙◌, ◌+◌, List, ℕ, length, drop, ap, arith}
use Rattle.std.proofs.lemmas.List.{drop-drop}
use Rattle.ttp_base.specs.Text.{lines_of}
use Rattle.trace_run.proofs.skip.skip_slot.Goals as goal

skipped : (lines : List (List ℕ)) (a b c : ℕ) → drop c (drop b (drop a lines)) ≡ drop (a + (b + c)) lines
skipped lines a b c =
    ap (drop c) (drop-drop b a lines) ∙ drop-drop c (a + b) lines
    ∙ ap (λ n. drop n lines) (let same : a + b + c ≡ a + (b + c) = omega arith in same)

pub returns : goal.returns
returns c =
    let lines = lines_of c.args.text.now in
    let hosts = c.skip_lines-hosts.ensures in
    let reads = c.skip_lines-reads.ensures in
    c.skip_lines.ensures
    ∙ ap (drop (length c.reads.result.now)) (reads ∙ ap (drop c.args.writes) hosts)
    ∙ skipped lines c.from.result c.args.writes (length c.reads.result.now)
    ∙ (λ i. drop ((c.from.ensures ∙ c.nodes.ensures) i + (c.args.writes + length (c.reads.ensures i))) lines)
