-- Lines, from their words.
use Rattle.std.proofs.Common.{◌≡◌, ℕ, ◌-◌, List, [], ◌∷◌, ◌++◌, length, take, refl, ap, sym, ◌∙◌, append_assoc}
use Rattle.std.proofs.Common.{length-append, arith}
use Rattle.std.specs.Prelude.{codes, decimal}
use Rattle.ttp_base.specs.Text.{newline}
use Rattle.ttp_world.specs.declared.keep.Back.{Back}
use Rattle.ttp_world.specs.declared.keep.Back.TheVariants as back
use Rattle.ttp_world.specs.declared.keep.Keep.{Keep}
use Rattle.ttp_world.specs.declared.keep.Keep.TheVariants as keep
use Rattle.ttp_world.specs.declared.medl.Medl.{Medl}
use Rattle.ttp_world.specs.declared.script.Event.{Event}
use Rattle.ttp_world.specs.declared.script.Script.{Script}
use Rattle.ttp_world.specs.Trace.{keep_line, back_line}
use Rattle.campaign.specs.declared.cost.Cost.{Cost}
use Rattle.campaign.specs.CostText.{unended, test_words, cost_words, fault_words}
use Rattle.campaign.specs.Lines.{own_line, place_words, fault_line}
use Rattle.fault_runs.specs.Told.{told_summary, keep_words, back_words, run_words}

-- The tests.

front : (text more : List ℕ) → take (length text) (text ++ more) ≡ text
front [] more = refl
front (b ∷ text) more = ap (λ (rest : List ℕ). b ∷ rest) (front text more)

unended-line : (text : List ℕ) → unended (text ++ newline) ≡ text
unended-line text =
    let long = length-append text newline in
    let one : length (text ++ newline) - 1 ≡ length text = omega (arith, long) in
    ap (λ (n : ℕ). take n (text ++ newline)) one ∙ front text newline

pub keep_words-unended : (k : Keep) → keep_words k ≡ unended (keep_line k)
keep_words-unended (keep.Yes start) = sym (unended-line (codes "keeps yes start " ++ decimal start))
keep_words-unended (keep.No rule slot) =
    sym (unended-line (codes "keeps no H" ++ decimal rule ++ codes " " ++ decimal slot))

pub back_words-unended : (b : Back) → back_words b ≡ unended (back_line b)
back_words-unended (back.Yes start) = sym (unended-line (codes "returns yes start " ++ decimal start))
back_words-unended (back.No rule slot) =
    sym (unended-line (codes "returns no Q" ++ decimal rule ++ codes " " ++ decimal slot))

-- The lines, behind a text.

pub own-behind : (list : Medl) (script : Script) (cost : Cost) (text words : List ℕ) → words ≡ cost_words list cost
    → ((text ++ codes "slot - node - ") ++ run_words (test_words list script) words) ++ codes "-\n"
    ≡ text ++ own_line list (told_summary list script cost)
own-behind list script cost text words are =
    let run = run_words (test_words list script) words in
    append_assoc (text ++ codes "slot - node - ") run (codes "-\n")
    ∙ append_assoc text (codes "slot - node - ") (run ++ codes "-\n")
    ∙ ap (λ (w : List ℕ). text ++ w)
    (sym (append_assoc (codes "slot - node - ") run (codes "-\n"))
    ∙ ap (λ (w : List ℕ). codes "slot - node - " ++ run_words (test_words list script) w ++ codes "-\n") are
    ∙ sym (append_assoc (codes "slot - node - " ++ run_words (test_words list script) (cost_words list cost))
    (codes "-") newline))

pub fault-behind : (list : Medl) (script : Script) (fault : Event) (cost : Cost) (text words : List ℕ)
    → words ≡ cost_words list cost
    → (((text ++ place_words fault) ++ run_words (test_words list script) words) ++ fault_words fault) ++ newline
    ≡ text ++ fault_line list fault (told_summary list script cost)
fault-behind list script fault cost text words are =
    let run = run_words (test_words list script) words in
    ap (λ (w : List ℕ). (w ++ fault_words fault) ++ newline) (append_assoc text (place_words fault) run)
    ∙ ap (λ (w : List ℕ). w ++ newline) (append_assoc text (place_words fault ++ run) (fault_words fault))
    ∙ append_assoc text ((place_words fault ++ run) ++ fault_words fault) newline
    ∙ ap (λ (w : List ℕ). text
    ++ ((place_words fault ++ run_words (test_words list script) w) ++ fault_words fault ++ newline)) are
