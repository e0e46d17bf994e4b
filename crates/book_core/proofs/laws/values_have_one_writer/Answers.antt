use Rattle.book_core.proofs.WrittenPlaces.{values_have_one_writer, looks_tell_the_writers_value}
use Rattle.book_core.proofs.laws.values_have_one_writer.Goals as goal

pub returns-clause-cells : goal.returns-clause-cells
returns-clause-cells c = values_have_one_writer

pub returns-clause-looks : goal.returns-clause-looks
returns-clause-looks c = looks_tell_the_writers_value
