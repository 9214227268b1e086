use Rattle.printing.proofs.Files.{no_file}
use Rattle.printing.proofs.image_of.Goals as goal

pub returns-in_default : goal.returns-in_default
returns-in_default g c = no_file

pub returns-in-Err : goal.returns-in-Err
returns-in-Err g c = no_file
