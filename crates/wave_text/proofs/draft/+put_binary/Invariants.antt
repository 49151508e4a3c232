use Rattle.wave_text.proofs.draft.+put_binary.Given as goal

-- the digits that are left
abbrev pub decreases-put_binary : goal.decreases-put_binary
decreases-put_binary l = l.digits
