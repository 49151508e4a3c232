-- Lines that are written one after another, and those of the nodes in a report.
use Rattle.std.proofs.Common.{◌≡◌, ℕ, zero, suc, ◌+◌, ◌<◌, List, [], ◌∷◌, ◌++◌, length, get_or, take, drop}
use Rattle.std.proofs.Common.{refl, sym, ap, subst, ◌∙◌, arith}
use Rattle.std.proofs.lemmas.List.{take_more, take-append-drop}
use Rattle.ttp_base.specs.Outside.{Output, WroteLines, CutShort}
use Rattle.ttp_base.specs.Text.{Lines}
use Rattle.ttp_base.proofs.Outputs.{Wrote-join, CutShort-after, CutShort-more}
use Rattle.ttp_world.specs.declared.medl.Medl.{Medl}
use Rattle.host_port.specs.declared.report.NodeLine.{NodeLine}
use Rattle.line_text.specs.LineParts.{listed_line}
use Rattle.trace_text.specs.ReportText.{node_texts}

-- The first lines of a text were written, and the next one is, whole or cut short.

next_line : (lines : Lines) (i : ℕ) (line : List ℕ) → i < length lines → get_or lines i line ≡ line
    → take (i + 1) lines ≡ take i lines ++ line ∷ []
next_line lines i line less is =
    take_more lines i line less ∙ ap (λ (l : List ℕ). take i lines ++ l ∷ []) is

pub WroteLines-next : (a b c : Output) (lines : Lines) (i : ℕ) (line : List ℕ) → i < length lines
    → get_or lines i line ≡ line → WroteLines a b (take i lines) → WroteLines b c (line ∷ [])
    → WroteLines a c (take (i + 1) lines)
WroteLines-next a b c lines i line less is before more =
    subst (WroteLines a c) (sym (next_line lines i line less is))
    (Wrote-join a b c (take i lines) (line ∷ []) before more)

pub CutShort-next : (a b c : Output) (lines : Lines) (i : ℕ) (line : List ℕ) → i < length lines
    → get_or lines i line ≡ line → WroteLines a b (take i lines) → CutShort b c (line ∷ []) → CutShort a c lines
CutShort-next a b c lines i line less is before cut =
    let rest = drop (i + 1) lines in
    let all : (take i lines ++ line ∷ []) ++ rest ≡ lines =
    ap (λ (front : Lines). front ++ rest) (sym (next_line lines i line less is)) ∙ take-append-drop (i + 1) lines in
    subst (CutShort a c) all
    (CutShort-more a c (take i lines ++ line ∷ []) rest
    (CutShort-after a b c (take i lines) (line ∷ []) before cut))

-- The lines of the nodes.

pub length-node_texts : (list : Medl) (slot first : ℕ) (nodes : List NodeLine)
    → length (node_texts list slot first nodes) ≡ length nodes
length-node_texts list slot first [] = refl
length-node_texts list slot first (line ∷ lines) = ap suc (length-node_texts list slot (first + 1) lines)

pub get_or-node_texts : (list : Medl) (slot first : ℕ) (nodes : List NodeLine) (i k : ℕ) (line : NodeLine)
    (text : List ℕ) → i < length nodes → first + i ≡ k → get_or nodes i line ≡ line
    → get_or (node_texts list slot first nodes) i text ≡ listed_line list slot k line.state line.message
get_or-node_texts list slot first [] i k line text less there is = absurd (omega arith)
get_or-node_texts list slot first (x ∷ xs) zero k line text less there is =
    let here : first ≡ k = omega (arith, there) in
    λ j. listed_line list slot (here j) (is j).state (is j).message
get_or-node_texts list slot first (x ∷ xs) (suc i) k line text less there is =
    get_or-node_texts list slot (first + 1) xs i k line text (omega arith) (omega (arith, there)) is
