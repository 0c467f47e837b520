use Rattle.std.proofs.Common.{length}
use Rattle.std.proofs.lemmas.List.{drop-replicate}
use Rattle.tariff.specs.Tables.{table_size}
use Rattle.tariff.proofs.table.table.Goals as goal

pub returns : goal.returns
returns g c = cc (drop-replicate (length c.args.list.now) table_size c.args.blank, c.copy_from_slice.ensures.after)
