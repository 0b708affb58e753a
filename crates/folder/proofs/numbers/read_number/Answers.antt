use Rattle.std.proofs.Common.{ne_eqb}
use Rattle.folder.proofs.ListLaws.{number_one, number_other, number_failed}
use Rattle.folder.proofs.numbers.read_number.Goals as goal

pub returns-in-Ok-eq1 : goal.returns-in-Ok-eq1
returns-in-Ok-eq1 g c = number_one _ _ c.in-Ok-eq1.field-0-test c.in-Ok-eq1.ensures

pub returns-in_default : goal.returns-in_default
returns-in_default g c = number_other _ _ (ne_eqb _ 1 c.in_default.field-0-test.1) c.in_default.ensures

pub returns-in_default-2 : goal.returns-in_default-2
returns-in_default-2 g c = number_failed _ _ (rw c.in_default.is at c.read_list.ensures)
