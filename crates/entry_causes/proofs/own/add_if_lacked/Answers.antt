use Rattle.std.proofs.Common.{ℕ, Bool, ◌++◌, ◌&&◌, [], ◌∷◌, cond, map, not, ap, sym, ◌∙◌}
use Rattle.std.proofs.lemmas.List.{append-nil}
use Rattle.causes.specs.Said.{said}
use Rattle.causes.specs.Sources.{no_sources, only_entries}
use Rattle.causes.specs.declared.cause.Spot.{Spot}
use Rattle.entry_causes.proofs.Adding.{adds-none, on-ok}
use Rattle.entry_causes.proofs.Remaining.{adds-same}
use Rattle.run_rows.specs.Rows.{past_slots}
use Rattle.ttp_base.specs.NodeSet.{has_node}
use Rattle.entry_causes.proofs.own.add_if_lacked.Goals as goal

pub returns-then-not-lacks_too-clause-lacked : goal.returns-then-not-lacks_too-clause-lacked
returns-then-not-lacks_too-clause-lacked c =
    let old = c.args.lacked.now in
    sym
    (ap (λ (b : Bool). old ++ cond b (c.args.member ∷ []) []) (sym c.lacks_too.ensures ∙ c.if-not-lacks_too.true)
    ∙ append-nil old)

pub returns-then-not-lacks_too-clause-entries : goal.returns-then-not-lacks_too-clause-entries
returns-then-not-lacks_too-clause-entries c =
    let f = λ (j : ℕ). said c.args.sender j (past_slots c.args.run.now c.args.before) in
    let m = c.args.member in
    adds-same c.args.out.now c.args.out.now no_sources
    (only_entries (map f (cond (has_node c.args.told m && not (has_node c.args.sent m)) (m ∷ []) [])))
    (ap (λ (b : Bool). only_entries (map f (cond b (m ∷ []) [])))
    (sym (sym c.lacks_too.ensures ∙ c.if-not-lacks_too.true)))
    (adds-none c.args.out.now)

pub returns-clause-lacked : goal.returns-clause-lacked
returns-clause-lacked c =
    let old = c.args.lacked.now in
    let m = c.args.member in
    on-ok c.push.result (λ pushed.
    pushed
    ∙ ap (λ (b : Bool). old ++ cond b (m ∷ []) []) (sym (sym c.lacks_too.ensures ∙ c.if-not-lacks_too.false)))
    c.push.ensures.ok

pub returns-clause-entries : goal.returns-clause-entries
returns-clause-entries c =
    let f = λ (j : ℕ). said c.args.sender j (past_slots c.args.run.now c.args.before) in
    let m = c.args.member in
    on-ok c.push.result (λ pushed.
    adds-same c.args.out.now c.add_entry.new.self (only_entries (c.said.result ∷ []))
    (only_entries (map f (cond (has_node c.args.told m && not (has_node c.args.sent m)) (m ∷ []) [])))
    (ap (λ (spot : Spot). only_entries (spot ∷ [])) c.said.ensures.value
    ∙ ap (λ (b : Bool). only_entries (map f (cond b (m ∷ []) [])))
    (sym (sym c.lacks_too.ensures ∙ c.if-not-lacks_too.false)))
    c.in_ok-add_entry.ensures)
    c.push.ensures.ok
