use Rattle.raw_bytes.proofs.Reading.{number_laws}
use Rattle.raw_bytes.proofs.Writing.{writing_laws}
use Rattle.raw_bytes.proofs.writer.writing_is_lawful.Goals as goal

pub returns : goal.returns
returns c = record { writing = writing_laws; numbers = number_laws }
