use Rattle.std.proofs.Common.{inl, refl}
use Rattle.commands.specs.Lines.{notice}
use Rattle.lab_top.proofs.FromBelow.{said}
use Rattle.lab_top.specs.Forms.{lab_usage_line}
use Rattle.lab_top.specs.Help.{version_line}
use Rattle.lab_top.specs.Texts.{ttplab}
use Rattle.lab_top.proofs.call.obey.Goals as goal

pub returns-in-NoForm-clause-follows : goal.returns-in-NoForm-clause-follows
returns-in-NoForm-clause-follows g c =
    let told = rw c.as_bytes-in-NoForm.ensures.value at c.say-in-NoForm.ensures in
    rw c.in-NoForm.is (refl, inl (said ttplab (notice 2 lab_usage_line) _ _ c.say-in-NoForm.result told))

pub returns-in-Version-clause-follows : goal.returns-in-Version-clause-follows
returns-in-Version-clause-follows g c =
    let told = rw c.as_bytes.ensures.value at c.say.ensures in
    rw c.in-Version.is (refl, inl (said ttplab (notice 0 version_line) _ _ c.say.result told))

pub returns-in-Campaign-clause-follows : goal.returns-in-Campaign-clause-follows
returns-in-Campaign-clause-follows g c = rw c.in-Campaign.is c.campaign.ensures

pub returns-in-Check-clause-follows : goal.returns-in-Check-clause-follows
returns-in-Check-clause-follows g c = rw c.in-Check.is c.check.ensures

pub returns-in-Margins-clause-follows : goal.returns-in-Margins-clause-follows
returns-in-Margins-clause-follows g c = rw c.in-Margins.is c.margins.ensures

pub returns-in-Pairs-clause-follows : goal.returns-in-Pairs-clause-follows
returns-in-Pairs-clause-follows g c = rw c.in-Pairs.is c.pairs.ensures

pub returns-in-Why-clause-follows : goal.returns-in-Why-clause-follows
returns-in-Why-clause-follows g c = rw c.in-Why.is c.why.ensures
