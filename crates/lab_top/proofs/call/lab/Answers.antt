use Rattle.std.proofs.Common.{Some, refl}
use Rattle.commands.specs.Texts.{alone}
use Rattle.lab_top.specs.Views.{wave_view, picture_view, chart_view}
use Rattle.lab_top.specs.Words.{wave, picture, campaign, chart, check, frames, margins, pairs, script_by, why}
use Rattle.lab_top.proofs.CampaignPromises.{campaign_promise}
use Rattle.lab_top.proofs.CheckPromises.{check_promise}
use Rattle.lab_top.proofs.FramesPromises.{frames_promise}
use Rattle.lab_top.proofs.MarginPromises.{margin_promise}
use Rattle.lab_top.proofs.PairPromises.{pair_promise}
use Rattle.lab_top.proofs.Promises.{lab_promise}
use Rattle.lab_top.proofs.ScriptPromises.{script_promise}
use Rattle.lab_top.proofs.Views.{view_promise}
use Rattle.lab_top.proofs.WhyPromises.{why_promise}
use Rattle.lab_top.proofs.call.lab.Goals as goal

pub returns-clause-promise : goal.returns-clause-promise
returns-clause-promise g c =
    lab_promise _ _ _ (alone c.obey.result) (rw c.command_of.ensures.form at c.obey.ensures.follows)
    (rw c.command_of.ensures.form at c.obey.ensures.no_form)

pub returns-clause-wave : goal.returns-clause-wave
returns-clause-wave g c = λ trace form.
    let p = lab_promise (Some (wave trace)) _ _ (alone c.obey.result)
    (rw (c.command_of.ensures.form, form) at c.obey.ensures.follows)
    (rw (c.command_of.ensures.form, form) at c.obey.ensures.no_form) in
    view_promise wave_view trace _ _ (alone c.obey.result) p.call (λ seven. p.empty seven refl)

pub returns-clause-picture : goal.returns-clause-picture
returns-clause-picture g c = λ trace asked form.
    let p = lab_promise (Some (picture trace asked)) _ _ (alone c.obey.result)
    (rw (c.command_of.ensures.form, form) at c.obey.ensures.follows)
    (rw (c.command_of.ensures.form, form) at c.obey.ensures.no_form) in
    view_promise (picture_view asked) trace _ _ (alone c.obey.result) p.call (λ seven. p.empty seven refl)

pub returns-clause-campaign : goal.returns-clause-campaign
returns-clause-campaign g c = λ list script first last form.
    let p = lab_promise (Some (campaign list script first last)) _ _ (alone c.obey.result)
    (rw (c.command_of.ensures.form, form) at c.obey.ensures.follows)
    (rw (c.command_of.ensures.form, form) at c.obey.ensures.no_form) in
    campaign_promise list script first last _ _ (alone c.obey.result) p.call

pub returns-clause-chart : goal.returns-clause-chart
returns-clause-chart g c = λ name asked form.
    let p = lab_promise (Some (chart name asked)) _ _ (alone c.obey.result)
    (rw (c.command_of.ensures.form, form) at c.obey.ensures.follows)
    (rw (c.command_of.ensures.form, form) at c.obey.ensures.no_form) in
    view_promise (chart_view asked) name _ _ (alone c.obey.result) p.call (λ seven. p.empty seven refl)

pub returns-clause-check : goal.returns-clause-check
returns-clause-check g c = λ list script form.
    let p = lab_promise (Some (check list script)) _ _ (alone c.obey.result)
    (rw (c.command_of.ensures.form, form) at c.obey.ensures.follows)
    (rw (c.command_of.ensures.form, form) at c.obey.ensures.no_form) in
    check_promise list script _ _ (alone c.obey.result) p.call

pub returns-clause-script : goal.returns-clause-script
returns-clause-script g c = λ list slots number form.
    let p = lab_promise (Some (script_by list slots number)) _ _ (alone c.obey.result)
    (rw (c.command_of.ensures.form, form) at c.obey.ensures.follows)
    (rw (c.command_of.ensures.form, form) at c.obey.ensures.no_form) in
    script_promise list slots number _ _ (alone c.obey.result) p.call (λ seven. p.empty seven refl)

pub returns-clause-frames : goal.returns-clause-frames
returns-clause-frames g c = λ list script trace form.
    let p = lab_promise (Some (frames list script trace)) _ _ (alone c.obey.result)
    (rw (c.command_of.ensures.form, form) at c.obey.ensures.follows)
    (rw (c.command_of.ensures.form, form) at c.obey.ensures.no_form) in
    frames_promise list script trace _ _ (alone c.obey.result) p.call (λ seven. p.empty seven refl)

pub returns-clause-margins : goal.returns-clause-margins
returns-clause-margins g c = λ list script asked form.
    let p = lab_promise (Some (margins list script asked)) _ _ (alone c.obey.result)
    (rw (c.command_of.ensures.form, form) at c.obey.ensures.follows)
    (rw (c.command_of.ensures.form, form) at c.obey.ensures.no_form) in
    margin_promise list script asked _ _ (alone c.obey.result) p.call

pub returns-clause-pairs : goal.returns-clause-pairs
returns-clause-pairs g c = λ list script first last within form.
    let p = lab_promise (Some (pairs list script first last within)) _ _ (alone c.obey.result)
    (rw (c.command_of.ensures.form, form) at c.obey.ensures.follows)
    (rw (c.command_of.ensures.form, form) at c.obey.ensures.no_form) in
    pair_promise list script first last within _ _ (alone c.obey.result) p.call

pub returns-clause-why : goal.returns-clause-why
returns-clause-why g c = λ list script node slot form.
    let p = lab_promise (Some (why list script node slot)) _ _ (alone c.obey.result)
    (rw (c.command_of.ensures.form, form) at c.obey.ensures.follows)
    (rw (c.command_of.ensures.form, form) at c.obey.ensures.no_form) in
    why_promise list script node slot _ _ (alone c.obey.result) p.call (λ seven. p.empty seven refl)
