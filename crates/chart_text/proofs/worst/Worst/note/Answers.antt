use Rattle.chart_text.proofs.Words.{◌∙◌, Bool, cond, ap, sym, take, told_of}
use Rattle.std.specs.Prelude.{insert}
use Rattle.chart_text.specs.Worst.{place_for}
use Rattle.chart_text.proofs.Listing.{told-inserted}
use Rattle.chart_text.proofs.worst.Worst.note.Goals as goal

pub returns-then-is_ok : goal.returns-then-is_ok
returns-then-is_ok c =
    let self = c.args.self.now in
    let size = c.args.size in
    let lines = c.self.inside.lines.items in
    let place = c.place_for-place.result in
    let fault = told_of c.args.fault in
    let all = c.insert.ensures.items
    ∙ ap (λ (b : Bool). cond b (insert lines place c.args.fault) lines) (sym c.is_ok.ensures.value ∙ c.if-is_ok.true) in
    told-inserted lines c.truncate.new.self.items place 10 c.args.fault (c.truncate.ensures.items ∙ ap (take 10) all)
    ∙ (λ i. take 10 (insert (c.self.view_is i) (c.place_for-place.ensures.value i) fault))
    ∙ sym
    (ap (λ (b : Bool). cond b (take 10 (insert self (place_for size c.args.fault.shown self) fault)) self)
    (sym c.does_harm.ensures ∙ c.if-does_harm.true))
