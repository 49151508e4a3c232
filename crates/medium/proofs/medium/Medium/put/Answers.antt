use Rattle.std.proofs.Common.{◌≡◌, w64, to_z, of_z, sym, ap, subst, ◌∙◌}
use Rattle.std.proofs.lemmas.Int.{to_z-of_z}
use Rattle.ttp_world.specs.declared.script.Channel.TheVariants as channel
use Rattle.ttp_world.specs.Script.{incidents_of, flipped_bits}
use Rattle.medium.specs.Carried.{Carried}
use Rattle.medium.specs.StandsFor.{MediumStandsFor, sent_by}
use Rattle.medium.proofs.Channels.{Carries-put}
use Rattle.medium.proofs.medium.Medium.put.Goals as goal

pub flips_of-requires : goal.flips_of-requires
flips_of-requires c =
    c.requires ∙ ap (λ (m : Carried). incidents_of c.args.script.now c.args.node m.slot) (sym c.self.view_is)

pub returns : goal.returns
returns c = λ slot frames clock is stands.
    let script = c.args.script.now in
    let node = c.args.node in
    let inside = c.self.inside in
    let incidents = c.args.incidents.now in
    let sent = sent_by node c.args.frame.now in
    let old : MediumStandsFor (record { slot = inside.slot; a = inside.a; b = inside.b }) script slot frames clock =
    subst (λ (m : Carried). MediumStandsFor m script slot frames clock) (sym c.self.view_is) stands in
    let told : incidents ≡ incidents_of script node slot = c.requires ∙ ap (incidents_of script node) stands.slot in
    let kept : to_z w64 (of_z w64 c.args.offset) ≡ c.args.offset = to_z-of_z w64 c.args.offset c.ranges.offset in
    record {
      slot = old.slot;
      a = Carries-put script slot channel.A inside.a _ frames sent c.args.offset clock incidents.send_silence.a
          incidents.send_noise.a _ is
          (ap (λ i. i.send_silence.a) told) (ap (λ i. i.send_noise.a) told)
          (c.flips_of.ensures channel.A ∙ ap (flipped_bits script node channel.A) old.slot)
          (rw kept at c.put.ensures) old.a;
      b = Carries-put script slot channel.B inside.b _ frames sent c.args.offset clock incidents.send_silence.b
          incidents.send_noise.b _ is
          (ap (λ i. i.send_silence.b) told) (ap (λ i. i.send_noise.b) told)
          (c.flips_of.ensures channel.B ∙ ap (flipped_bits script node channel.B) old.slot)
          (rw kept at c.put-2.ensures) old.b;
    }
