pub use Rattle.disk_store.specs as disk_store
