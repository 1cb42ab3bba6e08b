use Rattle.std.proofs.Common.{ap, subst, sym}
use Rattle.member_rooms.specs.page_table.Scans.{IsNew}
use Rattle.disk_store.specs.declared.held.Tables.{Tables}
use Rattle.disk_store.specs.Memory.{StoreMemory, with_tables}
use Rattle.disk_store.specs.Shown.{pages_of}
use Rattle.disk_store.specs.Taken.{TakesIn}
use Rattle.disk_store.proofs.Sound.{sound-tables, takes-keeps}
use Rattle.disk_store.proofs.EverUsed.{takes-back}
use Rattle.disk_store.proofs.Tabled.{takes-catalog, takes-relations, takes-indexes}
use Rattle.disk_store.proofs.CommitsKept.{taken-kept}
use Rattle.disk_store.proofs.held.Held.take_page.Goals as goal

pub returns-in-1 : goal.returns-in-1
returns-in-1 c =
    let kept : Tables = record { catalog = c.take_page.new.self; relations = c.self.inside.tables.relations; indexes = c.self.inside.tables.indexes } in (
      kept,
      ap (λ (k : StoreMemory). with_tables kept k) c.self.view_is,
      subst (λ (k : StoreMemory). TakesIn c.args.file c.args.page c.args.area c.args.class k.tables kept) c.self.view_is (takes-catalog c.args.file c.args.page c.args.area c.args.class c.self.inside.tables c.take_page.new.self c.in-1.is c.take_page.ensures),
    )

pub returns-in-2 : goal.returns-in-2
returns-in-2 c =
    let kept : Tables = record { catalog = c.self.inside.tables.catalog; relations = c.take_page-in-2.new.self; indexes = c.self.inside.tables.indexes } in (
      kept,
      ap (λ (k : StoreMemory). with_tables kept k) c.self.view_is,
      subst (λ (k : StoreMemory). TakesIn c.args.file c.args.page c.args.area c.args.class k.tables kept) c.self.view_is (takes-relations c.args.file c.args.page c.args.area c.args.class c.self.inside.tables c.take_page-in-2.new.self c.in-2.is c.take_page-in-2.ensures),
    )

pub returns-in-3 : goal.returns-in-3
returns-in-3 c =
    let kept : Tables = record { catalog = c.self.inside.tables.catalog; relations = c.self.inside.tables.relations; indexes = c.take_page-in-3.new.self } in (
      kept,
      ap (λ (k : StoreMemory). with_tables kept k) c.self.view_is,
      subst (λ (k : StoreMemory). TakesIn c.args.file c.args.page c.args.area c.args.class k.tables kept) c.self.view_is (takes-indexes c.args.file c.args.page c.args.area c.args.class c.self.inside.tables c.take_page-in-3.new.self c.in-3.is c.take_page-in-3.ensures),
    )

pub invariant_of-self : goal.invariant_of-self
invariant_of-self c =
    let i = c.self.inside in
    let h : StoreMemory = record { limits = i.limits; numbers = i.numbers; next = i.next; tables = i.tables; slots = i.slots; members = i.members.items } in
    let kept : Tables = record { catalog = c.take_page.new.self; relations = c.self.inside.tables.relations; indexes = c.self.inside.tables.indexes } in
    let fresh : IsNew (pages_of i.tables c.args.file) c.args.page = subst (λ (k : StoreMemory). IsNew (pages_of k.tables c.args.file) c.args.page) (sym c.self.view_is) c.requires.new in (
      c.self.invariant.0,
      sound-tables h kept (takes-keeps c.args.file c.args.page c.args.area c.args.class i.tables kept fresh (takes-catalog c.args.file c.args.page c.args.area c.args.class i.tables c.take_page.new.self c.in-1.is c.take_page.ensures))
          (λ t place m key is got file used. takes-back c.args.file c.args.page c.args.area c.args.class i.tables kept fresh (takes-catalog c.args.file c.args.page c.args.area c.args.class i.tables c.take_page.new.self c.in-1.is c.take_page.ensures) file key used) c.self.invariant.1,
      taken-kept h c.args.file c.args.page c.args.area c.args.class kept fresh (takes-catalog c.args.file c.args.page c.args.area c.args.class i.tables c.take_page.new.self c.in-1.is c.take_page.ensures) c.self.invariant.2,
    )

pub invariant_of-self-in-2 : goal.invariant_of-self-in-2
invariant_of-self-in-2 c =
    let i = c.self.inside in
    let h : StoreMemory = record { limits = i.limits; numbers = i.numbers; next = i.next; tables = i.tables; slots = i.slots; members = i.members.items } in
    let kept : Tables = record { catalog = c.self.inside.tables.catalog; relations = c.take_page-in-2.new.self; indexes = c.self.inside.tables.indexes } in
    let fresh : IsNew (pages_of i.tables c.args.file) c.args.page = subst (λ (k : StoreMemory). IsNew (pages_of k.tables c.args.file) c.args.page) (sym c.self.view_is) c.requires.new in (
      c.self.invariant.0,
      sound-tables h kept (takes-keeps c.args.file c.args.page c.args.area c.args.class i.tables kept fresh (takes-relations c.args.file c.args.page c.args.area c.args.class i.tables c.take_page-in-2.new.self c.in-2.is c.take_page-in-2.ensures))
          (λ t place m key is got file used. takes-back c.args.file c.args.page c.args.area c.args.class i.tables kept fresh (takes-relations c.args.file c.args.page c.args.area c.args.class i.tables c.take_page-in-2.new.self c.in-2.is c.take_page-in-2.ensures) file key used) c.self.invariant.1,
      taken-kept h c.args.file c.args.page c.args.area c.args.class kept fresh (takes-relations c.args.file c.args.page c.args.area c.args.class i.tables c.take_page-in-2.new.self c.in-2.is c.take_page-in-2.ensures) c.self.invariant.2,
    )

pub invariant_of-self-in-3 : goal.invariant_of-self-in-3
invariant_of-self-in-3 c =
    let i = c.self.inside in
    let h : StoreMemory = record { limits = i.limits; numbers = i.numbers; next = i.next; tables = i.tables; slots = i.slots; members = i.members.items } in
    let kept : Tables = record { catalog = c.self.inside.tables.catalog; relations = c.self.inside.tables.relations; indexes = c.take_page-in-3.new.self } in
    let fresh : IsNew (pages_of i.tables c.args.file) c.args.page = subst (λ (k : StoreMemory). IsNew (pages_of k.tables c.args.file) c.args.page) (sym c.self.view_is) c.requires.new in (
      c.self.invariant.0,
      sound-tables h kept (takes-keeps c.args.file c.args.page c.args.area c.args.class i.tables kept fresh (takes-indexes c.args.file c.args.page c.args.area c.args.class i.tables c.take_page-in-3.new.self c.in-3.is c.take_page-in-3.ensures))
          (λ t place m key is got file used. takes-back c.args.file c.args.page c.args.area c.args.class i.tables kept fresh (takes-indexes c.args.file c.args.page c.args.area c.args.class i.tables c.take_page-in-3.new.self c.in-3.is c.take_page-in-3.ensures) file key used) c.self.invariant.1,
      taken-kept h c.args.file c.args.page c.args.area c.args.class kept fresh (takes-indexes c.args.file c.args.page c.args.area c.args.class i.tables c.take_page-in-3.new.self c.in-3.is c.take_page-in-3.ensures) c.self.invariant.2,
    )
