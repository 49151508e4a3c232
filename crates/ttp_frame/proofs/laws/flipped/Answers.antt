use Rattle.std.proofs.Common.{◌≡◌, ℕ, ◌≤◌, Bool, List, length, ap, sym, subst, ◌∙◌, arith}
use Rattle.ttp_world.specs.Frame.{frame}
use Rattle.ttp_world.specs.Fitting.{joinable}
use Rattle.ttp_world.specs.Medl.{member_bytes}
use Rattle.ttp_frame.specs.Bytes.{xor_bytes}
use Rattle.ttp_frame.specs.Match.{match_of}
use Rattle.ttp_frame.proofs.Flips.{length-xor_bytes}
use Rattle.ttp_frame.proofs.Frames.{length-frame}
use Rattle.ttp_frame.proofs.FlippedFrames.{AreAlike, AreAlike-flipped, match_of-alike, joinable-alike}
use Rattle.ttp_frame.proofs.laws.flipped.Goals as goal

pub returns-clause-judged : goal.returns-clause-judged
returns-clause-judged c =
    let f = c.args.frame.now in
    let o = c.args.other.now in
    let flips = c.args.flips.now in
    let other_is : frame (member_bytes o.wide) o.header o.cstate o.payload.now c.args.start
    ≡ frame (member_bytes f.wide) f.header f.cstate o.payload.now c.args.start =
    λ i. frame (member_bytes (c.requires.wide i)) (c.requires.header i) (c.requires.cstate i) o.payload.now
    c.args.start in
    let alike =
    AreAlike-flipped (member_bytes f.wide) f.header f.cstate f.payload.now o.payload.now flips c.args.start
    (sym c.requires.payload)
    (c.requires.flips ∙ length-frame (member_bytes f.wide) f.header f.cstate f.payload.now c.args.start)
    (λ i. (c.type_inv.flips i).fits) c.requires.kept in
    λ header size d. match_of-alike f.wide f.header c.args.start _ _ alike header size d
    ∙ ap (λ bytes. match_of f.wide (xor_bytes bytes flips) header size c.args.start d) (sym other_is)

pub returns-clause-joined : goal.returns-clause-joined
returns-clause-joined c =
    let f = c.args.frame.now in
    let o = c.args.other.now in
    let flips = c.args.flips.now in
    let bytes : List ℕ = frame (member_bytes f.wide) f.header f.cstate f.payload.now c.args.start in
    let others : List ℕ = frame (member_bytes f.wide) f.header f.cstate o.payload.now c.args.start in
    let one : List ℕ = xor_bytes bytes flips in
    let two : List ℕ = xor_bytes others flips in
    let other_is : frame (member_bytes o.wide) o.header o.cstate o.payload.now c.args.start ≡ others =
    λ i. frame (member_bytes (c.requires.wide i)) (c.requires.header i)
    (c.requires.cstate i) o.payload.now c.args.start in
    let alike =
    AreAlike-flipped (member_bytes f.wide) f.header f.cstate f.payload.now o.payload.now flips c.args.start
    (sym c.requires.payload)
    (c.requires.flips ∙ length-frame (member_bytes f.wide) f.header f.cstate f.payload.now c.args.start)
    (λ i. (c.type_inv.flips i).fits) c.requires.kept in
    let some : 1 ≤ length one =
    omega (
      arith,
      length-xor_bytes bytes flips,
      length-frame (member_bytes f.wide) f.header f.cstate f.payload.now c.args.start,
    ) in
    λ list valid wide start.
    joinable-alike list f.header one two some
    (subst (λ (w : Bool). AreAlike (member_bytes w) f.header list.schedule one two) (sym wide)
    (subst (λ (s : ℕ). AreAlike (member_bytes f.wide) f.header s one two) (sym start) alike))
    ∙ ap (λ bs. joinable list (xor_bytes bs flips)) (sym other_is)
