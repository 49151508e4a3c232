-- The laws of one more entry: what is read of a longer diary, from what is read of it without its newest entry.
use Rattle.ttp_world.proofs.Words.{◌≡◌, ℕ, ◌+◌, ◌<◌, ℤ, pos, ◌+ℤ◌, Bool, true, false, cond, ◌||◌, List, [], ◌∷◌, ◌++◌}
use Rattle.ttp_world.proofs.Words.{length, Option, Some, None, refl, ap, sym, ◌∙◌, arith, ◌==◌, unwrap_or, count_by}
use Rattle.ttp_world.proofs.Words.{filter, list_any, or-true, sum_by-cons, below, has_node, same_sieve, has_node-sieve}
use Rattle.ttp_world.proofs.Words.{Medl, Ack, Entry, Verdict, is_correct, members_after, past_after, fta, Diary}
use Rattle.ttp_world.proofs.Words.{Surroundings, is_active, Place, may_follow, no_place, next_place, stint_place}
use Rattle.ttp_world.proofs.Words.{past_of}
use Rattle.std.proofs.lemmas.Bool.{cond-true}
use Rattle.ttp_world.specs.declared.node.Ack.TheVariants as ack
use Rattle.ttp_world.specs.declared.node.Entry.TheVariants as entry
use Rattle.ttp_world.specs.declared.node.Verdict.TheVariants as verdict
use Rattle.ttp_world.specs.Acknowledgement.{is_judged_correct, newest_sent_or_joined, since_sent_or_joined}
use Rattle.ttp_world.specs.Acknowledgement.{newest_doubted, first_or_doubt, ack_since, ack_of}
use Rattle.ttp_world.specs.After.{place_after, opined_members, accepted_after, rejected_after}
use Rattle.ttp_world.specs.After.{ack_answered, ack_after, cold_start_after, limit_after, silent_slots_after}
use Rattle.ttp_world.specs.After.{notes_after, offset_after}
use Rattle.ttp_world.specs.Clock.{notes_in, begins_round, notes_of, stint_notes, is_corrected, slot_change}
use Rattle.ttp_world.specs.Clock.{offset_of}
use Rattle.ttp_world.specs.Counts.{is_rejection, rejected_since, accepted_of, rejected_of}
use Rattle.ttp_world.specs.Diary.{SlotSurroundings, phase_after, begins_stint}
use Rattle.ttp_world.specs.Diary.{place_of}
use Rattle.ttp_world.specs.Membership.{opinion, is_good, members_of}
use Rattle.ttp_world.specs.Past.{is_start, cold_start_of, limit_of, silent_slots_of}

-- A reading that stops where a test holds is one that takes what the test says.

pub elim-cond : {A : Type 0} (b : Bool) (x y : A) → (elim b [ true ↦ x | false ↦ y ]) ≡ cond b x y
elim-cond true x y = refl
elim-cond false x y = refl

-- what holds of both parts of an `elim` on a test holds of it
pub elim_both : {A : Type 0} (b : Bool) (x y : A) (P : A → Type 0) → P x → P y → P (elim b [ true ↦ x | false ↦ y ])
elim_both true x y P p q = p
elim_both false x y P p q = q

elim-true : {A : Type 0} (b : Bool) (x y : A) → b ≡ true → (elim b [ true ↦ x | false ↦ y ]) ≡ x
elim-true b x y holds = elim-cond b x y ∙ cond-true b x y holds

-- What an active node's fields are read from.

place_of-active : (list : Medl) (k : ℕ) (diary : Diary) → is_active diary ≡ true
    → place_of list k diary ≡ stint_place list k diary
place_of-active list k diary active = elim-true (is_active diary) (stint_place list k diary) no_place active

ack_of-active : (diary : Diary) → is_active diary ≡ true
    → ack_of diary ≡ ack_since (newest_sent_or_joined diary) (since_sent_or_joined diary)
ack_of-active diary active =
    elim-true (is_active diary) (ack_since (newest_sent_or_joined diary) (since_sent_or_joined diary)) ack.Closed active

members_of-active : (list : Medl) (k : ℕ) (diary : Diary) → is_active diary ≡ true
    → members_of list k diary ≡ filter (is_good k diary) (below (length list.slots))
members_of-active list k diary active =
    elim-true (is_active diary) (filter (is_good k diary) (below (length list.slots))) [] active

accepted_of-active : (diary : Diary) → is_active diary ≡ true
    → accepted_of diary ≡ 1 + count_by is_judged_correct (since_sent_or_joined diary)
accepted_of-active diary active =
    elim-true (is_active diary) (1 + count_by is_judged_correct (since_sent_or_joined diary)) 0 active

rejected_of-active : (diary : Diary) → is_active diary ≡ true → rejected_of diary ≡ rejected_since diary
rejected_of-active diary active = elim-true (is_active diary) (rejected_since diary) 0 active

cold_start_of-active : (diary : Diary) → is_active diary ≡ true
    → cold_start_of diary ≡ is_start (newest_sent_or_joined diary)
cold_start_of-active diary active = elim-true (is_active diary) (is_start (newest_sent_or_joined diary)) false active

notes_of-active : (list : Medl) (k : ℕ) (diary : Diary) → is_active diary ≡ true
    → notes_of list k diary ≡ stint_notes list k diary
notes_of-active list k diary active = elim-true (is_active diary) (stint_notes list k diary) [] active

-- Places.

pub place_of-cons : (list : Medl) (k : ℕ) (diary : Diary) (e : Entry) → may_follow diary e ≡ true
    → place_of list k (e ∷ diary) ≡ place_after list k (place_of list k diary) e
place_of-cons list k diary entry.Started follows = refl
place_of-cons list k diary (entry.Joined sender cstate deviation) follows = refl
place_of-cons list k diary (entry.Sent message) follows =
    ap (next_place list) (sym (place_of-active list k diary follows))
place_of-cons list k diary (entry.Judged sender v deviation) follows =
    ap (next_place list) (sym (place_of-active list k diary follows))
place_of-cons list k diary (entry.Left why peer) follows = refl
place_of-cons list k diary e follows = refl

-- Members.

-- what an entry says of a node holds, and else what was held before
good_by : Bool → Option Bool → Bool
good_by before told = elim told [ Some good ↦ good | None ↦ before ]

is_good-cons : (k j : ℕ) (e : Entry) (diary : Diary) (o : Option Bool) → opinion k j e (ack_of diary) ≡ o
    → unwrap_or o (is_good k diary j) ≡ is_good k (e ∷ diary) j
unfolding good_by
is_good-cons k j e diary None is = ap (good_by (is_good k diary j)) (sym is)
is_good-cons k j e diary (Some good) is = ap (good_by (is_good k diary j)) (sym is)

opined_members-cons : (list : Medl) (k : ℕ) (diary : Diary) (e : Entry) → is_active diary ≡ true
    → opined_members list k (members_of list k diary) (ack_of diary) e
    ≡ filter (is_good k (e ∷ diary)) (below (length list.slots))
opined_members-cons list k diary e active = same_sieve _ (is_good k (e ∷ diary)) (length list.slots) each
  where
    each : (j : ℕ) → j < length list.slots
        → unwrap_or (opinion k j e (ack_of diary)) (has_node (members_of list k diary) j) ≡ is_good k (e ∷ diary) j
    each j less =
        ap (λ b. unwrap_or (opinion k j e (ack_of diary)) b)
        (ap (λ (ms : List ℕ). has_node ms j) (members_of-active list k diary active)
        ∙ has_node-sieve (is_good k diary) (length list.slots) j less)
        ∙ is_good-cons k j e diary (opinion k j e (ack_of diary)) refl

pub members_of-cons : (list : Medl) (k : ℕ) (diary : Diary) (e : Entry) → may_follow diary e ≡ true
    → members_of list k (e ∷ diary) ≡ members_after list k (members_of list k diary) (ack_of diary) e
members_of-cons list k diary entry.Started follows = refl
members_of-cons list k diary (entry.Joined sender cstate deviation) follows = refl
members_of-cons list k diary (entry.Sent message) follows =
    sym (opined_members-cons list k diary (entry.Sent message) follows)
members_of-cons list k diary (entry.Judged sender v deviation) follows =
    sym (opined_members-cons list k diary (entry.Judged sender v deviation) follows)
members_of-cons list k diary (entry.Left why peer) follows = refl
members_of-cons list k diary e follows = refl

-- Counts.

-- a correct frame is counted, and no other
accepted_of-judged : (sender : ℕ) (v : Verdict) (deviation : ℤ) (since : List Entry)
    → 1 + count_by is_judged_correct (entry.Judged sender v deviation ∷ since)
    ≡ cond (is_correct v) 1 0 + (1 + count_by is_judged_correct since)
accepted_of-judged sender v deviation since =
    omega (arith, sum_by-cons (λ x. cond (is_judged_correct x) 1 0) (entry.Judged sender v deviation) since)

pub accepted_of-cons : (diary : Diary) (e : Entry) → may_follow diary e ≡ true
    → accepted_of (e ∷ diary) ≡ accepted_after (accepted_of diary) e
accepted_of-cons diary entry.Started follows = refl
accepted_of-cons diary (entry.Joined sender cstate deviation) follows = refl
accepted_of-cons diary (entry.Sent message) follows = refl
accepted_of-cons diary (entry.Judged sender v deviation) follows =
    accepted_of-judged sender v deviation (since_sent_or_joined diary)
    ∙ ap (λ n. cond (is_correct v) 1 0 + n) (sym (accepted_of-active diary follows))
accepted_of-cons diary (entry.Left why peer) follows = refl
accepted_of-cons diary e follows = refl

pub rejected_of-cons : (diary : Diary) (e : Entry) → may_follow diary e ≡ true
    → rejected_of (e ∷ diary) ≡ rejected_after (rejected_of diary) (ack_of diary) e
rejected_of-cons diary entry.Started follows = refl
rejected_of-cons diary (entry.Joined sender cstate deviation) follows = refl
rejected_of-cons diary (entry.Sent message) follows = refl
rejected_of-cons diary (entry.Judged sender v deviation) follows =
    ap (λ n. cond (is_rejection (ack_of diary) v) 1 0 + n) (sym (rejected_of-active diary follows))
rejected_of-cons diary (entry.Left why peer) follows = refl
rejected_of-cons diary e follows = refl

-- The acknowledgement.

is_join : Option Entry → Bool
is_join (Some (entry.Joined sender cstate deviation)) = true
is_join _ = false

-- by whether the node joined, a correct frame came since, and which frame was tentative
ack_told : Bool → Bool → Option ℕ → Ack
ack_told true correct doubted = ack.Closed
ack_told false correct doubted = cond correct ack.Closed (first_or_doubt doubted)

ack_since-told : (own : Option Entry) (since : List Entry)
    → ack_since own since ≡ ack_told (is_join own) (list_any is_judged_correct since) (newest_doubted since)
unfolding is_join ack_told
ack_since-told None since = refl
ack_since-told (Some entry.Started) since = refl
ack_since-told (Some (entry.Joined sender cstate deviation)) since = refl
ack_since-told (Some (entry.Sent message)) since = refl
ack_since-told (Some (entry.Judged sender v deviation)) since = refl
ack_since-told (Some (entry.Left why peer)) since = refl
ack_since-told (Some entry.Off) since = refl
ack_since-told (Some entry.Waited) since = refl
ack_since-told (Some entry.Retried) since = refl
ack_since-told (Some entry.Gone) since = refl

-- the doubted sender with one more verdict
doubted_with : Verdict → ℕ → Option ℕ → Option ℕ
doubted_with verdict.Tentative sender doubted = Some sender
doubted_with _ sender doubted = doubted

newest_doubted-judged : (sender : ℕ) (v : Verdict) (deviation : ℤ) (since : List Entry)
    → newest_doubted (entry.Judged sender v deviation ∷ since) ≡ doubted_with v sender (newest_doubted since)
unfolding doubted_with
newest_doubted-judged sender verdict.Null deviation since = refl
newest_doubted-judged sender v deviation since = refl

ack_answered-told : (join correct : Bool) (doubted : Option ℕ) (v : Verdict) (sender : ℕ)
    → ack_answered (ack_told join correct doubted) v sender
    ≡ ack_told join (is_correct v || correct) (doubted_with v sender doubted)
unfolding ack_told doubted_with
ack_answered-told true correct doubted v sender = refl
ack_answered-told false true doubted verdict.Correct sender = refl
ack_answered-told false true doubted verdict.Tentative sender = refl
ack_answered-told false true doubted verdict.Null sender = refl
ack_answered-told false true doubted verdict.Invalid sender = refl
ack_answered-told false true doubted verdict.Incorrect sender = refl
ack_answered-told false true doubted verdict.Denied sender = refl
ack_answered-told false false None verdict.Correct sender = refl
ack_answered-told false false None verdict.Tentative sender = refl
ack_answered-told false false None verdict.Null sender = refl
ack_answered-told false false None verdict.Invalid sender = refl
ack_answered-told false false None verdict.Incorrect sender = refl
ack_answered-told false false None verdict.Denied sender = refl
ack_answered-told false false (Some x) verdict.Correct sender = refl
ack_answered-told false false (Some x) verdict.Tentative sender = refl
ack_answered-told false false (Some x) verdict.Null sender = refl
ack_answered-told false false (Some x) verdict.Invalid sender = refl
ack_answered-told false false (Some x) verdict.Incorrect sender = refl
ack_answered-told false false (Some x) verdict.Denied sender = refl

ack_since-judged : (own : Option Entry) (since : List Entry) (sender : ℕ) (v : Verdict) (deviation : ℤ)
    → ack_since own (entry.Judged sender v deviation ∷ since) ≡ ack_answered (ack_since own since) v sender
ack_since-judged own since sender v deviation =
    ack_since-told own (entry.Judged sender v deviation ∷ since)
    ∙ ap (ack_told (is_join own) (is_correct v || list_any is_judged_correct since))
    (newest_doubted-judged sender v deviation since)
    ∙ sym (ack_answered-told (is_join own) (list_any is_judged_correct since) (newest_doubted since) v sender)
    ∙ ap (λ a. ack_answered a v sender) (sym (ack_since-told own since))

pub ack_of-cons : (diary : Diary) (e : Entry) → may_follow diary e ≡ true
    → ack_of (e ∷ diary) ≡ ack_after (ack_of diary) e
ack_of-cons diary entry.Started follows = refl
ack_of-cons diary (entry.Joined sender cstate deviation) follows = refl
ack_of-cons diary (entry.Sent message) follows = refl
ack_of-cons diary (entry.Judged sender v deviation) follows =
    ack_since-judged (newest_sent_or_joined diary) (since_sent_or_joined diary) sender v deviation
    ∙ ap (λ a. ack_answered a v sender) (sym (ack_of-active diary follows))
ack_of-cons diary (entry.Left why peer) follows = refl
ack_of-cons diary e follows = refl

pub cold_start_of-cons : (diary : Diary) (e : Entry) → may_follow diary e ≡ true
    → cold_start_of (e ∷ diary) ≡ cold_start_after (cold_start_of diary) e
cold_start_of-cons diary (entry.Judged sender v deviation) follows = sym (cold_start_of-active diary follows)
cold_start_of-cons diary e follows = refl

-- Listening.

pub limit_of-cons : (list : Medl) (k : ℕ) (diary : Diary) (e : Entry)
    → limit_of list k (e ∷ diary) ≡ limit_after list k (limit_of list k diary) e
limit_of-cons list k diary entry.Started = refl
limit_of-cons list k diary e = refl

pub silent_slots_of-cons : (diary : Diary) (surroundings : Surroundings) (e : Entry) (s : SlotSurroundings)
    → silent_slots_of (e ∷ diary) (s ∷ surroundings)
    ≡ silent_slots_after (silent_slots_of diary surroundings) e s.is_silent
silent_slots_of-cons diary surroundings entry.Started s = refl
silent_slots_of-cons diary surroundings (entry.Joined sender cstate deviation) s = refl
silent_slots_of-cons diary surroundings (entry.Sent message) s = refl
silent_slots_of-cons diary surroundings (entry.Judged sender v deviation) s = refl
silent_slots_of-cons diary surroundings (entry.Left why peer) s = refl
silent_slots_of-cons diary surroundings entry.Off s = refl
silent_slots_of-cons diary surroundings entry.Waited s =
    elim-cond s.is_silent (1 + silent_slots_of diary surroundings) 0
silent_slots_of-cons diary surroundings entry.Retried s = refl
silent_slots_of-cons diary surroundings entry.Gone s = refl

-- Clocks.

-- the notes of an active node after an entry
noted : Medl → List ℤ → Place → Entry → List ℤ
noted list notes place e = notes_in list place e ++ cond (begins_round place e) [] notes

stint_notes-cons : (list : Medl) (k : ℕ) (diary : Diary) (e : Entry)
    → stint_notes list k (e ∷ diary) ≡ noted list (stint_notes list k diary) (stint_place list k (e ∷ diary)) e
unfolding noted
stint_notes-cons list k diary e =
    let place = stint_place list k (e ∷ diary) in
    ap (λ notes. notes_in list place e ++ notes) (elim-cond (begins_round place e) [] (stint_notes list k diary))

-- where a stint begins there are none from before
noted-first : (list : Medl) (before notes : List ℤ) (place : Place) (e : Entry) → begins_stint e ≡ true
    → noted list before place e ≡ noted list notes place e
unfolding noted
noted-first list before notes place e first =
    let begins : begins_round place e ≡ true = ap (λ b. (place.slot == 0) || b) first ∙ or-true (place.slot == 0) in
    ap (λ b. notes_in list place e ++ cond b [] before) begins
    ∙ sym (ap (λ b. notes_in list place e ++ cond b [] notes) begins)

pub notes_of-cons : (list : Medl) (k : ℕ) (diary : Diary) (e : Entry) → may_follow diary e ≡ true
    → notes_of list k (e ∷ diary) ≡ notes_after list (notes_of list k diary) (place_of list k (e ∷ diary)) e
unfolding noted
notes_of-cons list k diary entry.Started follows =
    stint_notes-cons list k diary entry.Started
    ∙ noted-first list (stint_notes list k diary) (notes_of list k diary)
    (stint_place list k (entry.Started ∷ diary)) entry.Started refl
notes_of-cons list k diary (entry.Joined sender cstate deviation) follows =
    stint_notes-cons list k diary (entry.Joined sender cstate deviation)
    ∙ noted-first list (stint_notes list k diary) (notes_of list k diary)
    (stint_place list k ((entry.Joined sender cstate deviation) ∷ diary)) (entry.Joined sender cstate deviation) refl
notes_of-cons list k diary (entry.Sent message) follows =
    stint_notes-cons list k diary (entry.Sent message)
    ∙ ap (λ notes. noted list notes (stint_place list k ((entry.Sent message) ∷ diary)) (entry.Sent message))
    (sym (notes_of-active list k diary follows))
notes_of-cons list k diary (entry.Judged sender v deviation) follows =
    stint_notes-cons list k diary (entry.Judged sender v deviation)
    ∙ ap (λ notes. noted list notes (stint_place list k ((entry.Judged sender v deviation) ∷ diary))
    (entry.Judged sender v deviation)) (sym (notes_of-active list k diary follows))
notes_of-cons list k diary (entry.Left why peer) follows = refl
notes_of-cons list k diary e follows = refl

pub offset_of-cons : (list : Medl) (k : ℕ) (diary : Diary) (surroundings : Surroundings) (e : Entry)
    (s : SlotSurroundings)
    → offset_of list k (e ∷ diary) (s ∷ surroundings)
    ≡ offset_after list (offset_of list k diary surroundings) (place_of list k (e ∷ diary))
    (notes_of list k (e ∷ diary)) e s
offset_of-cons list k diary surroundings e s =
    let place = place_of list k (e ∷ diary) in
    ap (λ corrected. offset_of list k diary surroundings +ℤ slot_change e s corrected)
    (elim-cond (is_corrected list (phase_after e) place) (fta (notes_of list k (e ∷ diary))) (pos 0))

-- The whole record.

pub past_of-cons : (list : Medl) (k : ℕ) (diary : Diary) (surroundings : Surroundings) (e : Entry)
    (s : SlotSurroundings) → may_follow diary e ≡ true
    → past_of list k (e ∷ diary) (s ∷ surroundings) ≡ past_after list k (past_of list k diary surroundings) e s
past_of-cons list k diary surroundings e s follows =
    let place = place_of-cons list k diary e follows in
    let members = members_of-cons list k diary e follows in
    let accepted = accepted_of-cons diary e follows in
    let rejected = rejected_of-cons diary e follows in
    let answered = ack_of-cons diary e follows in
    let cold = cold_start_of-cons diary e follows in
    let limit = limit_of-cons list k diary e in
    let silent = silent_slots_of-cons diary surroundings e s in
    let notes = notes_of-cons list k diary e follows ∙ ap (λ p. notes_after list (notes_of list k diary) p e) place in
    let offset =
    offset_of-cons list k diary surroundings e s
    ∙ (λ i. offset_after list (offset_of list k diary surroundings) (place i) (notes i) e s) in
    λ i. record {
      phase = phase_after e;
      entry = e;
      place = place i;
      members = members i;
      accepted = accepted i;
      rejected = rejected i;
      ack = answered i;
      cold_start = cold i;
      limit = limit i;
      silent_slots = silent i;
      offset = offset i;
      notes = notes i;
    }
