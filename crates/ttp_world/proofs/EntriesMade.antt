-- What the entry that a node makes in a slot says, whatever the node does.
use Rattle.ttp_world.proofs.Words.{ℕ, ℤ, Bool, List, Option, Some, None, IfSome, unwrap_or, cond, option_or, Medl, Act}
use Rattle.ttp_world.proofs.Words.{Off, Gone, Listen, Start, Retry, Leave, Send, Judge, Chosen, CState, Entry, Reason}
use Rattle.ttp_world.proofs.Words.{Verdict, coming_place, carries_payload, listening_entry, verdict_entry, new_entry}
use Rattle.ttp_world.proofs.Words.{joinable, Signal, Silence, Noise, Bits, NodePast, Hearing}
use Rattle.ttp_world.specs.declared.node.Entry.TheVariants as entry
use Rattle.ttp_world.specs.declared.node.Reason.TheVariants as reason
use Rattle.ttp_world.specs.declared.node.Verdict.TheVariants as verdict
use Rattle.ttp_world.specs.Conduct.{join_entry, channel_join}
use Rattle.ttp_world.specs.Conduct.{judging_entry}

-- What is so of a node's own entries, of a join on each C-state that can be joined, and of each judgement of the coming
-- slot's node, is so of the entry that the node makes.

pub record HoldOfEntries (P : Entry → Type 0) (list : Medl) (k : ℕ) (past : NodePast) (chosen : Chosen) : Type 0 where
  pub off : P entry.Off
  pub gone : P entry.Gone
  pub waited : P entry.Waited
  pub started : P entry.Started
  pub retried : P entry.Retried
  pub left : (why : Reason) (peer : ℕ) → P (entry.Left why peer)
  pub sent : (carries : Bool) → P (entry.Sent (cond carries (Some chosen.number) None))
  pub joined : (bytes : List ℕ)
      → IfSome (joinable list bytes) (λ c. (deviation : ℤ) → P (entry.Joined c.slot c deviation))
  pub judged : (v : Verdict) (deviation : ℤ) → P (entry.Judged (coming_place list past).slot v deviation)

-- of two joins the first that there is, or waiting
of_first : (P : Entry → Type 0) (x y : Option Entry) → P entry.Waited → IfSome x P → IfSome y P
    → P (unwrap_or (option_or x y) entry.Waited)
of_first P None None w p q = w
of_first P None (Some e) w p q = q
of_first P (Some e) y w p q = p

of_join : (P : Entry → Type 0) (deviation : ℤ) (c : Option CState)
    → IfSome c (λ c. (d : ℤ) → P (entry.Joined c.slot c d)) → IfSome (join_entry deviation c) P
of_join P deviation None each = tt
of_join P deviation (Some c) each = each deviation

of_channel : (P : Entry → Type 0) (list : Medl) (deviation : ℕ → ℤ) (signal : Signal)
    → ((bytes : List ℕ) → IfSome (joinable list bytes) (λ c. (d : ℤ) → P (entry.Joined c.slot c d)))
    → IfSome (channel_join list deviation signal) P
of_channel P list deviation Silence each = tt
of_channel P list deviation Noise each = tt
of_channel P list deviation (Bits sender bytes) each = of_join P (deviation sender) (joinable list bytes) (each bytes)

of_verdict : (P : Entry → Type 0) (sender : ℕ) (v : Verdict) (deviation : ℤ)
    → ((why : Reason) (peer : ℕ) → P (entry.Left why peer))
    → ((w : Verdict) (d : ℤ) → P (entry.Judged sender w d)) → P (verdict_entry sender v deviation)
of_verdict P sender verdict.Denied deviation left judged = left reason.Denied sender
of_verdict P sender verdict.Null deviation left judged = judged verdict.Null deviation
of_verdict P sender verdict.Invalid deviation left judged = judged verdict.Invalid deviation
of_verdict P sender verdict.Incorrect deviation left judged = judged verdict.Incorrect deviation
of_verdict P sender verdict.Correct deviation left judged = judged verdict.Correct deviation
of_verdict P sender verdict.Tentative deviation left judged = judged verdict.Tentative deviation

-- of a listening node's entry
pub listening_entry-holds : (P : Entry → Type 0) (list : Medl) (h : Hearing) → P entry.Waited
    → ((bytes : List ℕ) → IfSome (joinable list bytes) (λ c. (d : ℤ) → P (entry.Joined c.slot c d)))
    → P (listening_entry list h)
listening_entry-holds P list h waited joined =
    of_first P (channel_join list h.deviation h.a) (channel_join list h.deviation h.b) waited
    (of_channel P list h.deviation h.a joined) (of_channel P list h.deviation h.b joined)

-- of a judging node's entry
pub judging_entry-holds : (P : Entry → Type 0) (list : Medl) (k : ℕ) (past : NodePast) (h : Hearing)
    → ((why : Reason) (peer : ℕ) → P (entry.Left why peer))
    → ((v : Verdict) (d : ℤ) → P (entry.Judged (coming_place list past).slot v d)) → P (judging_entry list k past h)
judging_entry-holds P list k past h left judged = of_verdict P (coming_place list past).slot _ _ left judged

pub new_entry-holds : (P : Entry → Type 0) (list : Medl) (k : ℕ) (past : NodePast) (chosen : Chosen) (h : Hearing)
    (does : Act)
    → HoldOfEntries P list k past chosen → P (new_entry list k past chosen h does)
new_entry-holds P list k past chosen h Off all = all.off
new_entry-holds P list k past chosen h Gone all = all.gone
new_entry-holds P list k past chosen h Start all = all.started
new_entry-holds P list k past chosen h Retry all = all.retried
new_entry-holds P list k past chosen h (Leave why) all = all.left why k
new_entry-holds P list k past chosen h Send all = all.sent (carries_payload list (coming_place list past))
new_entry-holds P list k past chosen h Listen all = listening_entry-holds P list h all.waited all.joined
new_entry-holds P list k past chosen h Judge all = judging_entry-holds P list k past h all.left all.judged
