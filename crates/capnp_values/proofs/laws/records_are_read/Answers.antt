use Rattle.capnp_values.proofs.lemmas.RecordReadings.{fields_of_records, members_of_records, values_of_records}
use Rattle.capnp_values.proofs.laws.records_are_read.Goals as goal

pub returns-clause-fields : goal.returns-clause-fields
returns-clause-fields c = fields_of_records c.pointers_are_read.ensures

pub returns-clause-members : goal.returns-clause-members
returns-clause-members c = members_of_records

pub returns-clause-values : goal.returns-clause-values
returns-clause-values c = values_of_records
