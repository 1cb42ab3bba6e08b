-- Why the parts of an action stop, as the action stops then.
use Rattle.std.specs.Prelude.{◌≡◌, List, Some, slice_get}
use Rattle.rdo_ast.specs.declared.reply.Reply.TheVariants as r
use Rattle.line_view.specs.declared.stop.Stop.TheVariants.{Missing, Bad, NoMemory, Own}
use Rattle.catalog_lines.specs.declared.line.IndexLine.{IndexLine}
use Rattle.rdo_arithmetic.specs.declared.stop.Misfit.{Misfit}
use Rattle.rdo_arithmetic.specs.declared.stop.Misfit.TheVariants as misfit
use Rattle.rdo_select.specs.SelectStop.{SelectStop}
use Rattle.stored_rows.specs.declared.images.Unstored.TheVariants as unstored
use Rattle.row_writes.specs.declared.stop.PairRefusal.TheVariants as pair
use Rattle.row_writes.specs.declared.stop.RowRefusal.{RowRefusal}
use Rattle.row_writes.specs.declared.stop.RowRefusal.TheVariants.{NoImage, NoRoom, Pair}
use Rattle.row_writes.specs.Stop.{RowStop}
use Rattle.rdo_acts.specs.declared.stop.Refusal.{Refusal}
use Rattle.rdo_acts.specs.declared.stop.Refusal.TheVariants.{Overflow, TooLong, Unwritten}
use Rattle.rdo_acts.specs.Ends.{ActStop, reply_of}

abbrev pub stop_of_select : SelectStop → ActStop
stop_of_select (Missing need) = Missing need
stop_of_select (Bad key) = Bad key
stop_of_select NoMemory = NoMemory
stop_of_select (Own past) = Own Overflow

abbrev pub stop_of_misfit : Misfit → ActStop
stop_of_misfit misfit.Overflow = Own Overflow
stop_of_misfit misfit.TooLong = Own TooLong
stop_of_misfit misfit.Memory = NoMemory

-- a key that is taken is a duplicate in the index at the place
abbrev pub IsRefusalOf : RowRefusal → List IndexLine → Refusal → Type 0
IsRefusalOf (NoImage unstored.TooLong) xs refusal = refusal ≡ TooLong
IsRefusalOf (NoImage unstored.Misfit) xs refusal = refusal ≡ Unwritten (NoImage unstored.Misfit)
IsRefusalOf NoRoom xs refusal = refusal ≡ Unwritten NoRoom
IsRefusalOf (Pair at pair.Duplicate) xs refusal = (x : IndexLine) → slice_get xs at ≡ Some x → reply_of refusal ≡ Some (r.Duplicate x.name)
IsRefusalOf (Pair at pair.LongKey) xs refusal = refusal ≡ Unwritten (Pair at pair.LongKey)
IsRefusalOf (Pair at pair.Full) xs refusal = refusal ≡ Unwritten (Pair at pair.Full)

abbrev pub IsStopOfRow : RowStop → List IndexLine → ActStop → Type 0
IsStopOfRow (Missing need) xs stop = stop ≡ Missing need
IsStopOfRow (Bad key) xs stop = stop ≡ Bad key
IsStopOfRow NoMemory xs stop = stop ≡ NoMemory
IsStopOfRow (Own refusal) xs stop = (own : Refusal) × (stop ≡ Own own) × IsRefusalOf refusal xs own
