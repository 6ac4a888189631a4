-- `elchepur_csv_record` meets its contract.
use Rattle.export_csv.proofs.ToldLaws.{told-by}
use Rattle.export_csv.proofs.tables.elchepur_csv_record.Goals as goal

pub returns : goal.returns
returns c = told-by _ _ _ _ c.put_record.ensures c.tell.ensures.length c.tell.ensures.number
