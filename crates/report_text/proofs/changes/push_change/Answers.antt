use Rattle.std.proofs.Common.{◌≡◌, ◌++◌, OnOk, subst, sym}
use Rattle.volume_table.specs.declared.changes.Change.{Change}
use Rattle.report_text.specs.Texts.{change_text}
use Rattle.report_text.proofs.changes.push_change.Goals as goal

pub returns-in-Assign : goal.returns-in-Assign
returns-in-Assign c =
    subst (λ (change : Change). OnOk c.push_assign.result (c.push_assign.new.out.items ≡ c.args.out.now.items ++ change_text change c.args.freed))
    (sym c.in-Assign.is) c.push_assign.ensures

pub returns-in-Staged : goal.returns-in-Staged
returns-in-Staged c =
    subst (λ (change : Change). OnOk c.push_cylinder.result (c.push_cylinder.new.out.items ≡ c.args.out.now.items ++ change_text change c.args.freed))
    (sym c.in-Staged.is) c.push_cylinder.ensures

pub returns-in-Changed : goal.returns-in-Changed
returns-in-Changed c =
    subst (λ (change : Change). OnOk c.push_cylinder-in-Changed.result (c.push_cylinder-in-Changed.new.out.items ≡ c.args.out.now.items ++ change_text change c.args.freed))
    (sym c.in-Changed.is) c.push_cylinder-in-Changed.ensures

pub returns-in-Destaged : goal.returns-in-Destaged
returns-in-Destaged c =
    subst (λ (change : Change). OnOk c.push_cylinder-in-Destaged.result (c.push_cylinder-in-Destaged.new.out.items ≡ c.args.out.now.items ++ change_text change c.args.freed))
    (sym c.in-Destaged.is) c.push_cylinder-in-Destaged.ensures
