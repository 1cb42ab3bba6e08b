-- How stages follow one another.
use Rattle.std.proofs.Common.{◌≡◌, List, [], ◌++◌, length, drop, inl, inr, refl, sym, ap, ◌∙◌, append_assoc, append-nil, Result, Ok, Err}
use Rattle.std.proofs.lemmas.List.{drop_at, drop-drop, length-append}
use Rattle.rdb_types.specs.declared.keys.Dbkey.{Dbkey}
use Rattle.rdo_ast.specs.declared.reply.Reply.{Reply}
use Rattle.rdo_ast.specs.declared.reply.Reply.TheVariants as r
use Rattle.rdb_meaning.specs.Execution.{World, world, Ran, ran, and_then}
use Rattle.rdb_tables.specs.declared.stop.Stop.{Stop}
use Rattle.rdb_tables.specs.declared.stop.Stop.TheVariants as stop
use Rattle.rdb_tables.specs.Stages.{Stage, Goes, refusing, Runs}

-- no Dbkey is given on the way
pub goes_keyless : (choices : List Dbkey) (job rest : World → Ran) (from to : Stage) → to.given ≡ from.given → ((left : List Dbkey) → job (world from.tables left from.lines) ≡ rest (world to.tables left to.lines)) → Goes choices job rest from to
goes_keyless choices job rest from to same h = record {
  fresh = [];
  gives = same ∙ sym (append-nil from.given);
  comes = h;
  follows = inr (_, refl);
}

pub goes_nowhere : (choices : List Dbkey) (job : World → Ran) (at : Stage) → Goes choices job job at at
goes_nowhere choices job at = goes_keyless choices job job at at refl (λ left. refl)

-- what is left to choose after more were given
left_after : (choices given later fresh more : List Dbkey) → later ≡ given ++ fresh → drop (length given) choices ≡ fresh ++ more → drop (length later) choices ≡ more
left_after choices given later fresh more e h =
    ap (λ ks. drop (length ks) choices) e
    ∙ ap (λ n. drop n choices) (length-append given fresh)
    ∙ sym (drop-drop (length fresh) (length given) choices)
    ∙ ap (drop (length fresh)) h
    ∙ drop_at fresh more (length fresh) refl

-- one way, and then another
pub goes_on : {choices : List Dbkey} {job mid rest : World → Ran} {a b c : Stage} → Goes choices job mid a b → Goes choices mid rest b c → Goes choices job rest a c
goes_on {choices} {job} {mid} {rest} {a} {b} {c} first second = record {
  fresh = first.fresh ++ second.fresh;
  gives = second.gives ∙ ap (λ ks. ks ++ second.fresh) first.gives ∙ append_assoc a.given first.fresh second.fresh;
  comes = λ left.
      ap (λ ks. job (world a.tables ks a.lines)) (append_assoc first.fresh second.fresh left)
      ∙ first.comes (second.fresh ++ left) ∙ second.comes left;
  follows = elim first.follows [
    | inl strays ↦ inl strays
    | inr found ↦
        let (more, e) = found in
        let here : drop (length b.given) choices ≡ more = left_after choices a.given b.given first.fresh more first.gives e in
        let through : job (world a.tables (drop (length a.given) choices) a.lines) ≡ mid (world b.tables (drop (length b.given) choices) b.lines) =
        ap (λ ks. job (world a.tables ks a.lines)) e ∙ first.comes more ∙ ap (λ ks. mid (world b.tables ks b.lines)) (sym here) in
        elim second.follows [
          | inl strays ↦ inl (through ∙ strays)
          | inr beyond ↦ inr (beyond.0, e ∙ ap (λ ks. first.fresh ++ ks) (sym here ∙ beyond.1) ∙ sym (append_assoc first.fresh second.fresh beyond.0))
        ]
  ];
}

abbrev then : (World → Ran) → (World → Ran) → World → Ran
then job next w = and_then (job w) next

-- the first of two jobs is done
pub goes_first : {choices : List Dbkey} {job : World → Ran} {a b : Stage} (next : World → Ran) → Goes choices job ran a b → Goes choices (then job next) next a b
goes_first {choices} {job} {a} {b} next first = record {
  fresh = first.fresh;
  gives = first.gives;
  comes = λ left. ap (λ r. and_then r next) (first.comes left);
  follows = elim first.follows [
    | inl strays ↦ inl (ap (λ r. and_then r next) strays)
    | inr found ↦ inr found
  ];
}

-- the first of two jobs is refused
pub goes_refused : {choices : List Dbkey} {job : World → Ran} {a b : Stage} (reply : Reply) (next : World → Ran) → Goes choices job (refusing reply) a b → Goes choices (then job next) (refusing reply) a b
goes_refused {choices} {job} {a} {b} reply next first = record {
  fresh = first.fresh;
  gives = first.gives;
  comes = λ left. ap (λ r. and_then r next) (first.comes left);
  follows = elim first.follows [
    | inl strays ↦ inl (ap (λ r. and_then r next) strays)
    | inr found ↦ inr found
  ];
}

-- the same, whatever the end of the rest
pub runs_on : {choices : List Dbkey} {job mid : World → Ran} {a b : Stage} (c : Stage) (end : Result (Unit {0}) Stop) → Goes choices job mid a b → Runs end choices mid b c → Runs end choices job a c
runs_on c (Ok _) first second = goes_on first second
runs_on c (Err stop.Overflow) first second = goes_on first second
runs_on c (Err stop.TooLong) first second = goes_on first second
runs_on c (Err (stop.Duplicate index)) first second = goes_on first second
runs_on c (Err stop.Memory) first second = tt

-- the first of two jobs ends both
pub runs_ended : (choices : List Dbkey) (job : World → Ran) (a b : Stage) (cause : Stop) (next : World → Ran) → Runs (Err cause) choices job a b → Runs (Err cause) choices (then job next) a b
runs_ended choices job a b stop.Overflow next first = goes_refused r.Overflow next first
runs_ended choices job a b stop.TooLong next first = goes_refused r.TooLong next first
runs_ended choices job a b (stop.Duplicate index) next first = goes_refused (r.Duplicate index) next first
runs_ended choices job a b stop.Memory next first = tt
