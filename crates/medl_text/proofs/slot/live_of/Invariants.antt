use Rattle.std.proofs.Common.{◌≡◌, ◌-◌, ◌<◌, ◌≤◌, ◌^◌, length, drop}
use Rattle.medl_text.specs.ListFile.{live_of}
use Rattle.medl_text.proofs.slot.live_of.Given as goal

-- the letters from m on were taken
abbrev pub invariant-loop-m : goal.invariant-loop-m
invariant-loop-m l = record {
  within : l.m ≤ length l.letters;
  value : l.live ≡ live_of (drop l.m l.letters);
  small : l.live < 2 ^ (length l.letters - l.m);
}
