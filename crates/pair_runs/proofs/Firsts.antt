-- A first fault: the lines of its pairs, and its own.
use Rattle.std.proofs.Common.{◌≡◌, ◌≤◌, ◌+◌, ◌-◌, suc, List, [], ◌∷◌, ◌++◌, length}
use Rattle.std.proofs.Common.{refl, sym, ap, ◌∙◌, append-nil, arith}
use Rattle.std.proofs.Common.{length-append}
use Rattle.std.specs.Prelude.{map, flat_map, min}
use Rattle.std.specs.List.{range_with_len}
use Rattle.std.proofs.lemmas.List.{length-map}
use Rattle.ttp_base.specs.Outside.{Output}
use Rattle.ttp_base.specs.Text.{Lines}
use Rattle.campaign.specs.Lines.{summary, summary_with}
use Rattle.ttp_world.specs.declared.script.Script.{Script}
use Rattle.campaign.specs.Tried.{with_fault}
use Rattle.fault_runs.specs.declared.put.CampaignFault.{CampaignFault}
use Rattle.fault_runs.specs.declared.put.CampaignFault.TheVariants as fault
use Rattle.fault_runs.specs.Ends.{LeftBy, LeftFewerBy}
use Rattle.fault_pairs.specs.declared.pair.Harm.{Harm}
use Rattle.fault_pairs.specs.Classes.{harm_of}
use Rattle.fault_pairs.specs.Pairs.{seconds_of}
use Rattle.fault_pairs.specs.PairText.{lines_of_told, pair_tolds, first_fault_line, first_fault_lines, told_of_pair}
use Rattle.fault_pairs.specs.Sums.{PairTold, pair_counts}
use Rattle.pair_runs.specs.declared.tried.FirstSetting.{FirstSetting}
use Rattle.pair_runs.specs.Tries.{MayTryPairs, first_of, told_pair}
use Rattle.pair_runs.specs.Written.{told_second, tolds_of_firsts, text_of_firsts}
use Rattle.pair_runs.proofs.Groups.{tolds_later, later-few, behind-range}
use Rattle.pair_runs.proofs.Told.{seconds-told}

-- never all of it is some of it
pub left-fewer : (why : CampaignFault) (a c : Output) (lines : Lines) → LeftFewerBy why a c lines → LeftBy why a c lines
left-fewer fault.Failed a c lines left = left
left-fewer fault.Memory a c lines few = record {
  whole = few.whole;
  rest = few.next ∷ few.rest;
  text = few.text;
  wrote = few.wrote;
}

-- what is told of its pairs
abbrev pub pairs_of : FirstSetting → List PairTold
pairs_of setting =
    map (told_second setting)
    (seconds_of setting.common.list.now setting.common.script.now setting.common.within (first_of setting))

pub tolds-first : (setting : FirstSetting)
    → setting.first ≡ harm_of (summary_with setting.common.list.now setting.common.script.now setting.one.now).cost
    → pairs_of setting ≡ tolds_of_firsts setting.common (first_of setting ∷ [])
tolds-first setting is =
    let list = setting.common.list.now in
    let script = setting.common.script.now in
    (λ i. map (told_of_pair list script setting.common.own (first_of setting) (is i))
    (seconds_of list script setting.common.within (first_of setting)))
    ∙ sym (append-nil (pair_tolds list script setting.common.within setting.common.own (first_of setting)))

-- there are not many
pub pairs-few : (setting : FirstSetting) → MayTryPairs setting → length setting.behind.now
    ≤ 384 → length (pairs_of setting) ≤ 7680384
pairs-few setting may few =
    let slots = ap (λ (s : Script). s.slots) may.more in
    let end = min (suc (setting.slot + setting.common.within)) setting.more.now.slots in
    let all : map (told_pair setting 0) setting.behind.now
    ++ flat_map (tolds_later setting) (range_with_len (setting.slot + 1) (end - (setting.slot + 1))) ≡ pairs_of setting =
    ap (λ ps. map (told_pair setting 0) setting.behind.now ++ ps) (behind-range setting end refl)
    ∙ seconds-told setting may.more in
    let long = sym (ap length all)
    ∙ length-append (map (told_pair setting 0) setting.behind.now)
    (flat_map (tolds_later setting) (range_with_len (setting.slot + 1) (end - (setting.slot + 1)))) in
    omega (
      arith,
      long,
      length-map setting.behind.now (told_pair setting 0),
      later-few setting may.may.valid (setting.slot + 1) (end - (setting.slot + 1)),
      may.may.script.slots.1,
      slots,
      few,
    )

pub lines-first : (setting : FirstSetting)
    → setting.first ≡ harm_of (summary_with setting.common.list.now setting.common.script.now setting.one.now).cost
    → setting.more.now ≡ with_fault setting.common.script.now setting.one.now
    → lines_of_told (pairs_of setting) ++ first_fault_line setting.common.list.now (first_of setting)
    (summary setting.common.list.now setting.more.now) (pair_counts (pairs_of setting)) ∷ []
    ≡ text_of_firsts setting.common (first_of setting ∷ [])
lines-first setting is more =
    let list = setting.common.list.now in
    let script = setting.common.script.now in
    let told = λ (harm : Harm). map (told_of_pair list script setting.common.own (first_of setting) harm)
    (seconds_of list script setting.common.within (first_of setting)) in
    (λ i. lines_of_told (told (is i))
    ++ first_fault_line list (first_of setting) (summary list (more i)) (pair_counts (told (is i))) ∷ [])
    ∙ sym (append-nil (first_fault_lines list script setting.common.within setting.common.own (first_of setting)))
