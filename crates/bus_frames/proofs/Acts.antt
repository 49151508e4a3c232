-- What a node did in a slot, by its entry: that it sent a frame, and which one.
use Rattle.std.proofs.Common.{◌≡◌, ℕ, List, [], refl}
use Rattle.std.specs.Prelude.{Option, Some, None, IfSome, ℤ}
use Rattle.ttp_world.specs.declared.medl.Medl.{Medl}
use Rattle.ttp_world.specs.declared.node.Act.{Act}
use Rattle.ttp_world.specs.declared.node.Act.TheVariants.{Off, Gone, Listen, Start, Retry, Leave, Send, Judge}
use Rattle.ttp_world.specs.declared.node.CState.{CState}
use Rattle.ttp_world.specs.declared.node.Chosen.{Chosen}
use Rattle.ttp_world.specs.declared.node.Entry.{Entry}
use Rattle.ttp_world.specs.declared.node.Entry.TheVariants as entry
use Rattle.ttp_world.specs.Conduct.{new_entry, node_frames}
use Rattle.ttp_world.specs.Fitting.{joinable}
use Rattle.ttp_world.specs.Medium.{SentFrame}
use Rattle.ttp_world.specs.Past.{NodePast}
use Rattle.ttp_world.specs.Reception.{Hearing}
use Rattle.ttp_world.proofs.EntriesMade.{listening_entry-holds, judging_entry-holds}

-- a node that does this, and sends these frames, makes this entry
abbrev pub ActsBy : Act → List SentFrame → Entry → Type 0
ActsBy a sent entry.Started = a ≡ Start
ActsBy a sent (entry.Sent message) = a ≡ Send
ActsBy a sent _ = sent ≡ []

join-silent : (c : Option CState) → IfSome c (λ c. (d : ℤ) → ActsBy Listen [] (entry.Joined c.slot c d))
join-silent None = tt
join-silent (Some c) = λ d. refl

pub acts-by : (list : Medl) (k : ℕ) (past : NodePast) (one other : Chosen) (h : Hearing) (a : Act)
    → ActsBy a (node_frames list k past other a) (new_entry list k past one h a)
acts-by list k past one other h Start = refl
acts-by list k past one other h Send = refl
acts-by list k past one other h Off = refl
acts-by list k past one other h Gone = refl
acts-by list k past one other h Retry = refl
acts-by list k past one other h (Leave why) = refl
acts-by list k past one other h Listen =
    listening_entry-holds (ActsBy Listen []) list h refl (λ bytes. join-silent (joinable list bytes))
acts-by list k past one other h Judge =
    judging_entry-holds (ActsBy Judge []) list k past h (λ why peer. refl) (λ v d. refl)
