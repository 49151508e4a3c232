use Rattle.std.proofs.Common.{◌<◌, ◌∙◌, length, ap, sym, codes, Some, inl, inr, arith}
use Rattle.std.specs.List.{concat}
use Rattle.ttp_world.specs.TraceNumbers.{numbers_in}
use Rattle.commands.specs.Words.{texts_of}
use Rattle.uses.proofs.FromBelow.{surely_in_memory, right_held, all_written, ran, trace_within}
use Rattle.ttp_top.specs.Calls.Words.{form_of}
use Rattle.uses.proofs.bench.headline.safe_trace.Goals as goal

pub returns-clause-trace : goal.returns-clause-trace
returns-clause-trace g c =
    let asked = ap form_of (ap texts_of c.deref.ensures.value ∙ c.in_ok-words.ensures) in
    let w = (c.ask-status.ensures.answered.of_run (codes "list") (codes "script") asked).trace c.if-status-ne0.false in
    let held = c.in_ok-library.ensures in
    record {
      list = w.medl;
      script = w.right;
      are = right_held held.list held.script w.list_file w.script_file w.are;
      valid = w.text.valid;
      valid_script = w.text.valid_script;
      numbers = numbers_in w.medl w.right w.text.lines;
      legal = w.text.legal;
      whole =
          all_written c.in_ok-out.ensures.empty (ap Some (sym (c.in_ok-from_slice.ensures.items ∙ c.bytes.ensures)))
          w.text.wrote
          ∙ ap concat w.text.text;
      one = λ start kept count past within.
          let safe = (w.text.keeping start kept).safe count past within in
          (safe.agree, safe.senders, safe.stay, safe.faulty);
      on_time = λ start kept count past within.
          let near = (w.text.keeping start kept).clocks count past within in
          λ inside j k is_j is_k.
          let apart = near.deviations inside j k is_j is_k in (near.clocks inside j k is_j is_k, apart.0, apart.1);
      alike = λ start kept. (w.text.keeping start kept).frames;
      back_safe = λ start owed. w.text.returning start owed;
    }

pub returns-then-status-ne0-clause-missing : goal.returns-then-status-ne0-clause-missing
returns-then-status-ne0-clause-missing g c =
    let asked = ap form_of (ap texts_of c.deref.ensures.value ∙ c.in_ok-words.ensures) in
    let held = c.in_ok-library.ensures in
    λ medl right are.
    elim (ran c.ask-status.ensures.answered.promise.call
    (surely_in_memory c.in_ok-library.library (codes "list") c.args.list.now held.never held.counts held.list)
    (surely_in_memory c.in_ok-library.library (codes "script") c.args.script.now held.never held.counts held.script) are
    (omega (arith, c.in_ok-out.ensures.quiet))
    (c.ask-status.ensures.answered.of_run (codes "list") (codes "script") asked)) [
      | inl whole ↦ absurd (c.if-status-ne0.true whole.0)
      | inr (inl seven) ↦ inl seven
      | inr (inr six) ↦
          let longer : c.args.room < length (concat six.1.lines) =
          omega (arith, c.in_ok-out.ensures.takes, six.1.cut.short) in
          inr (
            six.0,
            record {
              lines = six.1.lines;
              trace = six.1.among;
              longer = longer;
              limit = omega (arith, longer, trace_within medl right six.1.lines six.1.among);
            },
          )
    ]
