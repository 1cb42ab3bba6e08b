pub use Rattle.rdb_page.proofs.of_slot_fields as of_slot_fields
