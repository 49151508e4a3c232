-- What an active node holds after another's slot, by what comes to it.
use Rattle.safety_laws.proofs.Words.{◌≡◌, ◌≢◌, ℕ, ◌<◌, ℤ, pos, false, cond, List, Option, Some, None, refl, ap, sym}
use Rattle.safety_laws.proofs.Words.{◌∙◌, ◌⊎◌, inl, inr, subst, length, arith, bytes_eq, ne_eqb, false_from_ne_true}
use Rattle.safety_laws.proofs.Words.{bytes_eq-Decides, with_node, without_node, Ack, Act, Judge, ChannelView, Entry}
use Rattle.safety_laws.proofs.Words.{Phase, Verdict, phase_act, own_act, past_after, verdict_entry, judging_entry}
use Rattle.safety_laws.proofs.Words.{new_entry, Candidates, candidates, verdict_of_view, expected_of, nodes-most}
use Rattle.safety_laws.proofs.Words.{HearsNoFrame, HearsSilence, NodeSlot, act_made, entry_made, next_past, owner_of}
use Rattle.safety_laws.proofs.Words.{candidates_of, is_second, view_of_members, StandsBy, HasJustLeft, IsJudgedAs}
use Rattle.safety_laws.proofs.Words.{IsAboutListed, IsJudging, HearsMembers, HearsOutside}
use Rattle.ttp_world.specs.declared.node.Ack.TheVariants as ack
use Rattle.ttp_world.specs.declared.node.ChannelView.TheVariants as view
use Rattle.ttp_world.specs.declared.node.Entry.TheVariants as entry
use Rattle.ttp_world.specs.declared.node.Reason.TheVariants as reason
use Rattle.ttp_world.specs.declared.node.Verdict.TheVariants as verdict
use Rattle.ttp_world.proofs.MemberSets.{members_after-Judged}
use Rattle.safety_laws.specs.NodeSlot.{slot_place}
use Rattle.safety_laws.specs.Standing.{judged_standing}
use Rattle.safety_laws.proofs.Judging.{judging_entry-frame, judging_entry-none, judging_entry-silence}
use Rattle.safety_laws.proofs.GroupSets.{AreCandidates-node, put_in≢taken_out}
use Rattle.safety_laws.proofs.Views.{view_of_bits-members, view_of_bits-outside}

-- What the node does: it judges.

pub act-judging : (x : NodeSlot) → IsJudging x → act_made x ≡ Judge
act-judging x is =
    ap (λ (p : Phase). phase_act p x.list x.node x.on x.armed x.past) is.active
    ∙ ap (λ own. cond own (own_act x.past) Judge) (ne_eqb _ x.node is.other)

pub entry_made-judging : (x : NodeSlot) → IsJudging x → entry_made x ≡ judging_entry x.list x.node x.past x.hearing
entry_made-judging x is = ap (λ (does : Act). new_entry x.list x.node x.past x.chosen x.hearing does) (act-judging x is)

-- What it then holds, by its entry.

stands-judged : (x : NodeSlot) (v : Verdict) (deviation : ℤ) → IsJudging x →
    let e = entry.Judged (owner_of x) v deviation in
    StandsBy (past_after x.list x.node x.past e x.around) e (judged_standing x v deviation)
stands-judged x v deviation is = record {
  phase = refl;
  entry = refl;
  place = refl;
  members = sym (members_after-Judged x.list x.node x.past.members x.past.ack (owner_of x) v deviation is.members
      is.owner (nodes-most x.list is.valid));
  accepted = refl;
  rejected = refl;
  ack = refl;
  cold_start = refl;
  notes = refl;
}

judged-by_entry : (x : NodeSlot) (v : Verdict) (deviation : ℤ) → IsJudging x
    → judging_entry x.list x.node x.past x.hearing ≡ entry.Judged (owner_of x) v deviation → IsJudgedAs x v deviation
judged-by_entry x v deviation is judged =
    subst (λ (made : Entry). StandsBy (past_after x.list x.node x.past made x.around)
    (entry.Judged (owner_of x) v deviation) (judged_standing x v deviation))
    (sym (entry_made-judging x is ∙ judged)) (stands-judged x v deviation is)

left-by_entry : (x : NodeSlot) → IsJudging x
    → judging_entry x.list x.node x.past x.hearing ≡ entry.Left reason.Denied (owner_of x)
    → HasJustLeft (next_past x) reason.Denied (owner_of x)
left-by_entry x is judged =
    subst (λ (made : Entry). HasJustLeft (past_after x.list x.node x.past made x.around) reason.Denied (owner_of x))
    (sym (entry_made-judging x is ∙ judged)) (record { phase = refl; entry = refl; members = refl; ack = refl })

-- The view of members.

view-first : (c : Candidates) (members : List ℕ) → members ≡ c.first → view_of_members c members ≡ view.First
view-first c members same =
    ap (λ b. cond b view.First (cond (is_second c.second members) view.Second view.Other))
    ((bytes_eq-Decides members c.first).1 same)

pub view-later : (c : Candidates) (members : List ℕ) → members ≢ c.first
    → view_of_members c members ≡ cond (is_second c.second members) view.Second view.Other
view-later c members other =
    ap (λ b. cond b view.First (cond (is_second c.second members) view.Second view.Other))
    (false_from_ne_true (bytes_eq members c.first) (λ eq. other ((bytes_eq-Decides members c.first).0 eq)))

view-second : (c : Candidates) (members : List ℕ) → members ≢ c.first → c.second ≡ Some members
    → view_of_members c members ≡ view.Second
view-second c members other same =
    view-later c members other ∙ ap (λ b. cond b view.Second view.Other)
    (ap (λ o. is_second o members) same ∙ (bytes_eq-Decides members members).1 refl)

not_second : (second : Option (List ℕ)) (members : List ℕ) → second ≢ Some members → is_second second members ≡ false
not_second None members other = refl
not_second (Some one) members other =
    false_from_ne_true (bytes_eq members one)
    (λ eq. other (ap (λ (s : List ℕ). Some s) (sym ((bytes_eq-Decides members one).0 eq))))

view-other : (c : Candidates) (members : List ℕ) → members ≢ c.first → c.second ≢ Some members
    → view_of_members c members ≡ view.Other
view-other c members other other_too =
    view-later c members other ∙ ap (λ b. cond b view.Second view.Other) (not_second c.second members other_too)

-- The frame of the slot, inside the window.

module _ (x : NodeSlot) (sender : ℕ) (members : List ℕ) (is : IsJudging x) (hears : HearsMembers x sender members) where
  -- it is judged by its members
  pub entry-by_view : (v : ChannelView) → view_of_members (candidates_of x) members ≡ v
      → judging_entry x.list x.node x.past x.hearing
      ≡ verdict_entry (owner_of x) (verdict_of_view v x.past.ack) (x.hearing.deviation sender)
  entry-by_view v seen =
      judging_entry-frame x.list x.node x.past x.hearing (record { sender = sender; bytes = hears.bytes }) hears.comes
      ∙ ap (λ (w : ChannelView). verdict_entry (owner_of x) (verdict_of_view w x.past.ack) (x.hearing.deviation sender))
      (view_of_bits-members x.list (slot_place x) (candidates_of x) members hears.bytes (x.hearing.deviation sender)
      is.valid hears.frame (AreCandidates-node x.list x.past.ack x.node (owner_of x) x.past.members is.valid is.node
      is.owner is.doubted is.members) hears.within ∙ seen)

  -- the first candidate's frame is correct
  pub judged-correct : members ≡ (candidates_of x).first → IsJudgedAs x verdict.Correct (x.hearing.deviation sender)
  judged-correct same =
      judged-by_entry x verdict.Correct (x.hearing.deviation sender) is
      (entry-by_view view.First (view-first (candidates_of x) members same))

  -- no candidate's is incorrect
  pub judged-incorrect : members ≢ (candidates_of x).first → (candidates_of x).second ≢ Some members
      → IsJudgedAs x verdict.Incorrect (x.hearing.deviation sender)
  judged-incorrect other other_too =
      judged-by_entry x verdict.Incorrect (x.hearing.deviation sender) is
      (entry-by_view view.Other (view-other (candidates_of x) members other other_too))

  -- the second candidate's, which is never the first
  entry-second : (a : Ack) (second : List ℕ) → x.past.ack ≡ a
      → second ≢ (candidates a x.node x.past.members (owner_of x)).first
      → (candidates a x.node x.past.members (owner_of x)).second ≡ Some second → members ≡ second
      → judging_entry x.list x.node x.past x.hearing
      ≡ verdict_entry (owner_of x) (verdict_of_view view.Second a) (x.hearing.deviation sender)
  entry-second a second ack_is apart of_ack same =
      entry-by_view view.Second
      (ap (λ (b : Ack). view_of_members (candidates b x.node x.past.members (owner_of x)) members) ack_is
      ∙ view-second (candidates a x.node x.past.members (owner_of x)) members (λ eq. apart (sym same ∙ eq))
      (of_ack ∙ ap (λ (s : List ℕ). Some s) (sym same)))
      ∙ ap (λ (b : Ack). verdict_entry (owner_of x) (verdict_of_view view.Second b) (x.hearing.deviation sender)) ack_is

  -- it is tentative where the node waits for its first successor
  pub judged-tentative : x.past.ack ≡ ack.First → members ≡ without_node (with_node x.past.members (owner_of x)) x.node
      → IsJudgedAs x verdict.Tentative (x.hearing.deviation sender)
  judged-tentative first same =
      let held = with_node x.past.members (owner_of x) in
      judged-by_entry x verdict.Tentative (x.hearing.deviation sender) is
      (entry-second ack.First (without_node held x.node) first
      (λ eq. put_in≢taken_out held held x.node (omega (arith, is.node, nodes-most x.list is.valid)) (sym eq)) refl same)

  -- and denies the node where it waits for its second
  pub leaves-denied : (y : ℕ) → x.past.ack ≡ ack.Doubt y
      → members ≡ with_node (without_node (with_node x.past.members (owner_of x)) x.node) y
      → HasJustLeft (next_past x) reason.Denied (owner_of x)
  leaves-denied y doubt same =
      let held = with_node x.past.members (owner_of x) in
      let listed : y < length x.list.slots = subst (IsAboutListed x.list) doubt is.doubted in
      left-by_entry x is (entry-second (ack.Doubt y) (with_node (without_node held x.node) y) doubt
      (put_in≢taken_out (without_node held x.node) (with_node held x.node) y
      (omega (arith, listed, nodes-most x.list is.valid))) refl same)

-- A frame outside the window is invalid, whatever its members are.
pub judged-outside : (x : NodeSlot) (sender : ℕ) → IsJudging x → HearsOutside x sender
    → IsJudgedAs x verdict.Invalid (x.hearing.deviation sender)
judged-outside x sender is hears =
    judged-by_entry x verdict.Invalid (x.hearing.deviation sender) is
    (judging_entry-frame x.list x.node x.past x.hearing (record { sender = sender; bytes = hears.bytes }) hears.comes
    ∙ ap (λ (v : ChannelView). verdict_entry (owner_of x) (verdict_of_view v x.past.ack) (x.hearing.deviation sender))
    (view_of_bits-outside x.list (expected_of x.list x.node x.past) hears.bytes (x.hearing.deviation sender)
    hears.outside))

-- Where no frame comes the slot is null or invalid,
pub judged-none : (x : NodeSlot) → IsJudging x → HearsNoFrame x.hearing
    → IsJudgedAs x verdict.Null (pos 0) ⊎ IsJudgedAs x verdict.Invalid (pos 0)
judged-none x is none = elim (judging_entry-none x.list x.node x.past x.hearing none) [
  | inl null ↦ inl (judged-by_entry x verdict.Null (pos 0) is null)
  | inr invalid ↦ inr (judged-by_entry x verdict.Invalid (pos 0) is invalid)
]

-- and null where nothing does.
pub judged-silent : (x : NodeSlot) → IsJudging x → HearsSilence x.hearing → IsJudgedAs x verdict.Null (pos 0)
judged-silent x is silent =
    judged-by_entry x verdict.Null (pos 0) is (judging_entry-silence x.list x.node x.past x.hearing silent)

-- By the verdict on what comes the node judges the owner so, or leaves as denied.
pub judged-by_verdict : (x : NodeSlot) (v : Verdict) (deviation : ℤ) → IsJudging x
    → judging_entry x.list x.node x.past x.hearing ≡ verdict_entry (owner_of x) v deviation
    → IsJudgedAs x v deviation ⊎ HasJustLeft (next_past x) reason.Denied (owner_of x)
judged-by_verdict x verdict.Denied deviation is made = inr (left-by_entry x is made)
judged-by_verdict x v deviation is made = inl (judged-by_entry x v deviation is made)

-- So it does whatever comes.
pub judged-whatever : (x : NodeSlot) → IsJudging x → ((v : Verdict) × ((deviation : ℤ) × IsJudgedAs x v deviation))
    ⊎ HasJustLeft (next_past x) reason.Denied (owner_of x)
judged-whatever x is = by _ _ refl
  where
    by : (v : Verdict) (deviation : ℤ)
        → judging_entry x.list x.node x.past x.hearing ≡ verdict_entry (owner_of x) v deviation
        → ((v : Verdict) × ((deviation : ℤ) × IsJudgedAs x v deviation))
        ⊎ HasJustLeft (next_past x) reason.Denied (owner_of x)
    by v deviation made = elim (judged-by_verdict x v deviation is made) [
      | inl judged ↦ inl (v, (deviation, judged))
      | inr left ↦ inr left
    ]
