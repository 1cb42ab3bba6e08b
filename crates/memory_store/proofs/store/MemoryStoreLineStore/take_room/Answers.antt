use Rattle.memory_store.proofs.store.MemoryStoreLineStore.take_room.Goals as goal

pub unreachable-requires : goal.unreachable-requires
unreachable-requires c = c.in_default.ensures.none c.requires.area.0 c.requires.area.1
