-- The next line behind one that was passed over.
use Rattle.std.proofs.Common.{◌≡◌, ℕ, Option, Some, None, subst}
use Rattle.rdb_types.specs.declared.keys.Dbkey.{Dbkey}
use Rattle.rdb_types.specs.OrderLaws.{dbkey_total}
use Rattle.line_store.specs.Rooms.{IsBehind}
use Rattle.committed_tables.specs.page_table.declared.uses.Sought.{Sought}
use Rattle.committed_tables.specs.page_table.Pages.{Pages}
use Rattle.committed_tables.specs.page_table.Scans.{Fits}

-- where it is looked for: behind the line at the beginning, or behind one that is behind it
pub data IsFurther (from : Option Dbkey) : Option Dbkey → Type 0 where
  same : (behind : Option Dbkey) → behind ≡ from → IsFurther from behind
  passed : (behind : Option Dbkey) (key : Dbkey) → behind ≡ Some key → IsBehind from key → IsFurther from behind

behind-both : (from : Option Dbkey) (mid key : Dbkey) → IsBehind from mid → IsBehind (Some mid) key → IsBehind from key
behind-both None mid key a b = tt
behind-both (Some first) mid key a b = dbkey_total.trans first mid key a b

pub behind-further : (from behind : Option Dbkey) (key : Dbkey) → IsFurther from behind → IsBehind behind key → IsBehind from key
behind-further from behind key (same _ is) at = subst (λ (b : Option Dbkey). IsBehind b key) is at
behind-further from behind key (passed _ mid is first) at = behind-both from mid key first (subst (λ (b : Option Dbkey). IsBehind b key) is at)

pub fits-further : (pages : Pages) (sought : Sought) (area : ℕ) (from behind : Option Dbkey) (key : Dbkey) → IsFurther from behind → Fits pages sought area behind key → Fits pages sought area from key
fits-further pages sought area from behind key further fits = record { area_is = fits.area_is; is_line = fits.is_line; behind = behind-further from behind key further fits.behind; is_sought = fits.is_sought }
