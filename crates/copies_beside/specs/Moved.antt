-- What is shown behind calls that aren't the store's.
use Rattle.rdb_outside.specs.Disk.{View}
use Rattle.line_store.specs.Shelves.{Shelf}
use Rattle.disk_store.specs.Memory.{StoreMemory}

-- the same shelf, with the disk's clock moved on
abbrev pub moved_on : View → StoreMemory → Shelf → Shelf
moved_on v held h = record h { clock = record { time = v.moment; faults = v.faults; promised = held.numbers.ceiling } }
