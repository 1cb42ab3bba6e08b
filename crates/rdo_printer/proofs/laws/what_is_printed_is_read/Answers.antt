use Rattle.rdo_printer.proofs.TextLaws.{words_are_read, text_is_read, script_is_read, script_is_whole}
use Rattle.rdo_printer.proofs.laws.what_is_printed_is_read.Goals as goal

pub returns : goal.returns
returns c = record { words = words_are_read; text = text_is_read; script = script_is_read; whole = script_is_whole }
