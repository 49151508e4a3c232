use Rattle.std.proofs.Common.{◌≡◌, ◌-◌, ◌≤◌, ◌++◌, length, take, drop}
use Rattle.ttp_base.specs.Text.{hex}
use Rattle.ttp_base.proofs.text.fill_hex.Given as goal

-- the digits still due and those written are all of them
abbrev pub invariant-loop-place : goal.invariant-loop-place
invariant-loop-place l =
    (l.start ≤ l.place) × (l.place ≤ length l.text) × (length l.text ≡ length l.fn.text)
    × (take l.start l.text ≡ take l.start l.fn.text)
    × (hex (l.place - l.start) l.rest ++ drop l.place l.text ≡ hex (length l.fn.text - l.start) l.v)
