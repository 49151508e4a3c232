-- What is kept of a pair, and its line.
use Rattle.std.proofs.Common.{◌≡◌, ◌+◌, ◌<◌, ℕ, Bool, true, false, cond, List}
use Rattle.std.proofs.Common.{[], ◌∷◌, ◌++◌, length, get_or, take, drop}
use Rattle.std.proofs.Common.{sym, ap, ◌∙◌, append_assoc}
use Rattle.std.specs.Prelude.{map}
use Rattle.std.proofs.lemmas.List.{take_more, take-append-drop, map-append}
use Rattle.std.proofs.lemmas.Simd.{map-map}
use Rattle.campaign.specs.Tried.{with_fault}
use Rattle.ttp_world.specs.ZerosWorld.{zeros_world}
use Rattle.ttp_world.specs.declared.script.Script.{Script}
use Rattle.fault_pairs.specs.declared.pair.PairClass.TheVariants as class
use Rattle.fault_pairs.specs.Classes.{has_line}
use Rattle.fault_pairs.specs.Pairs.{second_apart, seconds_beside, seconds_behind, seconds_of}
use Rattle.fault_pairs.specs.PairText.{lines_of_told}
use Rattle.fault_pairs.specs.Sums.{PairTold}
use Rattle.pair_runs.specs.declared.tried.FirstSetting.{FirstSetting}
use Rattle.pair_runs.specs.declared.tried.PairResult.{PairResult}
use Rattle.pair_runs.specs.Tries.{shortened, told_pair, first_of}
use Rattle.pair_runs.specs.Written.{told_second, tolds_behind}
use Rattle.pair_runs.proofs.Counted.{lines-append}

pub line-told : (told : PairResult) (pair : PairTold) → told ≡ shortened pair → has_line told.class ≡ true
    → told.line ∷ [] ≡ lines_of_told (pair ∷ [])
line-told told pair is has =
    let here : has_line pair.class ≡ true = sym (ap (λ (t : PairResult). has_line t.class) is) ∙ has in
    ap (λ (t : PairResult). t.line ∷ []) is ∙ ap (λ (b : Bool). cond b pair.line [] ∷ []) here
    ∙ ap (λ (b : Bool). map (λ (t : PairTold). t.line) (cond b (pair ∷ []) [])) (sym here)

pub no-line : (told : PairResult) (pair : PairTold) → told ≡ shortened pair → has_line told.class ≡ false
    → [] ≡ lines_of_told (pair ∷ [])
no-line told pair is has =
    let here : has_line pair.class ≡ false = sym (ap (λ (t : PairResult). has_line t.class) is) ∙ has in
    ap (λ (b : Bool). map (λ (t : PairTold). t.line) (cond b (pair ∷ []) [])) (sym here)

-- a pair that stands for none
abbrev pub no_told : PairTold
no_told = record { apart = 0; yes = false; class = class.Sum; line = [] }

-- the lines of some pairs, of one and of those behind
pub lines-split : (pairs : List PairTold) (i : ℕ) → i < length pairs
    → lines_of_told (take i pairs)
    ++ (lines_of_told (get_or pairs i no_told ∷ []) ++ lines_of_told (drop (i + 1) pairs))
    ≡ lines_of_told pairs
lines-split pairs i inside =
    let front = take i pairs in
    let one = get_or pairs i no_told in
    let rest = drop (i + 1) pairs in
    sym (append_assoc (lines_of_told front) (lines_of_told (one ∷ [])) (lines_of_told rest))
    ∙ ap (λ ls. ls ++ lines_of_told rest)
    (sym (lines-append front (one ∷ [])) ∙ ap lines_of_told (sym (take_more pairs i no_told inside)))
    ∙ sym (lines-append (take (i + 1) pairs) rest) ∙ ap lines_of_told (take-append-drop (i + 1) pairs)

-- all pairs of a first fault are those of its slot and those behind
pub seconds-told : (setting : FirstSetting) → setting.more.now ≡ with_fault setting.common.script.now setting.one.now
    → map (told_pair setting 0) setting.behind.now ++ tolds_behind setting
    ≡ map (told_second setting)
    (seconds_of setting.common.list.now setting.common.script.now setting.common.within (first_of setting))
seconds-told setting is =
    let list = setting.common.list.now in
    let later = λ (s : Script). seconds_behind list s (zeros_world list s s.slots) setting.slot setting.common.within in
    (λ i. sym (map-map (told_second setting) (second_apart 0) setting.behind.now) i
    ++ map (told_second setting) (later (is i)))
    ∙ sym (map-append (told_second setting) (seconds_beside (first_of setting))
    (later (with_fault setting.common.script.now setting.one.now)))
