-- The frame of a node that has sent in a slot.
use Rattle.std.proofs.Common.{◌≡◌, ℕ, Bool, true, false, cond, List, [], ◌∷◌, refl, ap, sym}
use Rattle.std.proofs.Common.{true≢false}
use Rattle.std.specs.Prelude.{◌==◌, not, if◌then◌else◌}
use Rattle.ttp_world.specs.declared.node.Act.{Act}
use Rattle.ttp_world.specs.declared.node.Act.TheVariants.{Off, Gone, Listen, Start, Retry, Leave, Send, Judge}
use Rattle.ttp_world.specs.declared.node.Chosen.{Chosen}
use Rattle.ttp_world.specs.declared.node.Entry.{Entry}
use Rattle.ttp_world.specs.declared.node.Entry.TheVariants as entry
use Rattle.ttp_world.specs.Act.{coming_place}
use Rattle.ttp_world.specs.Conduct.{node_frames}
use Rattle.ttp_world.specs.Frame.{frame, header_of}
use Rattle.ttp_world.specs.Conduct.{own_cstate}
use Rattle.ttp_world.specs.Medium.{SentFrame, is_sending}
use Rattle.ttp_world.specs.Medl.{kind_at, member_width, payload_length}
use Rattle.ttp_world.specs.World.{BegunSlot, chosen_of, frames_of, node_of}
use Rattle.bus_frames.specs.Sending.{header_by, sending_in, size_by, state_by}
use Rattle.bus_frames.specs.Standing.{frame_with, payload_with}
use Rattle.bus_frames.proofs.Acts.{ActsBy}

-- a node sends that does this
abbrev pub sends : Act → Bool
sends Start = true
sends Send = true
sends _ = false

pub sends-by : (a : Act) (sent : List SentFrame) (e : Entry) → ActsBy a sent e → is_sending e ≡ true → sends a ≡ true
sends-by a sent entry.Started by is = ap sends by
sends-by a sent (entry.Sent message) by is = ap sends by
sends-by a sent _ by is = absurd (true≢false (sym is))

pub silent-by : (a : Act) (sent : List SentFrame) (e : Entry) → ActsBy a sent e → is_sending e ≡ false → sent ≡ []
silent-by a sent entry.Started by is = absurd (true≢false is)
silent-by a sent (entry.Sent message) by is = absurd (true≢false is)
silent-by a sent _ by is = by

either : {A : Type 0} (b : Bool) (x y : A) → cond (not b) x y ≡ cond b y x
either true x y = refl
either false x y = refl

-- the frame that a node sends
pub frames-sent : (s : BegunSlot) (chosen : List Chosen) (k : ℕ) → sends (node_of s k).act ≡ true
    → frames_of s chosen k
    ≡ record {
      sender = k;
      bytes = frame_with s.list (sending_in s k) (payload_with (sending_in s k) (chosen_of chosen k));
    } ∷ []
frames-sent s chosen k is = by-act (node_of s k).act is
  where
    by-act : (a : Act) → sends a ≡ true → node_frames s.list k (node_of s k).past (chosen_of chosen k) a
        ≡ record {
          sender = k;
          bytes = frame_with s.list (record (sending_in s k) {
            header = header_by s.list (node_of s k).past a;
            size = size_by s.list (node_of s k).past a;
            state = state_by s.list k (node_of s k).past a;
          }) (if size_by s.list (node_of s k).past a == 0 then [] else (chosen_of chosen k).payload);
        } ∷ []
    by-act Start sent = refl
    by-act Send sent =
        let p = (node_of s k).past in
        let place = coming_place s.list p in
        ap (λ (payload : List ℕ). record {
          sender = k;
          bytes = frame (member_width s.list)
              (header_of (kind_at s.list place.round place.slot)) (own_cstate s.list k p)
              payload s.list.schedule;
        } ∷ []) (either (payload_length s.list place.round place.slot == 0) (chosen_of chosen k).payload [])
    by-act Off sent = absurd (true≢false (sym sent))
    by-act Gone sent = absurd (true≢false (sym sent))
    by-act Listen sent = absurd (true≢false (sym sent))
    by-act Retry sent = absurd (true≢false (sym sent))
    by-act (Leave why) sent = absurd (true≢false (sym sent))
    by-act Judge sent = absurd (true≢false (sym sent))
