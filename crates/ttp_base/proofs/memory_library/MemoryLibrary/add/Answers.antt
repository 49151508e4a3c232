use Rattle.std.proofs.Common.{arith, refl, ap, ◌∙◌, Option, rules, ◌≡◌, List, ℕ, subst, sym}
use Rattle.std.proofs.lemmas.Map.Text.{text_keys, btree_map_updates_text}
use Rattle.std.specs.BTreeMap.{get_by_text}
use Rattle.std.specs.String.{string_bytes}
use Rattle.ttp_base.specs.declared.memory_library.Kept.{Kept}
use Rattle.ttp_base.specs.MemoryLibrary.{library_faults, library_fail, first_count, told_count}
use Rattle.ttp_base.specs.Outside.{never_fails}
use Rattle.ttp_base.proofs.Counts.{same_counts}
use Rattle.ttp_base.proofs.memory_library.MemoryLibrary.add.Goals as goal

pub returns-clause-ok : goal.returns-clause-ok
returns-clause-ok c = record {
  added = grind (arith, text_keys);
  others = λ other differs. grind (arith, text_keys);
}

pub returns-clause-counts : goal.returns-clause-counts
returns-clause-counts c =
    let before = c.args.self.now in
    let told = told_count (never_fails (library_fail before)) (library_faults before) in
    let key = string_bytes c.in_ok-key.key in
    let same : key ≡ c.args.name.now = search rules in
    let first : c.count_before-faults.result ≡ first_count (library_faults before) (get_by_text before.files key) =
    rw same c.count_before-faults.ensures in
    record {
      names = λ other.
          ap told (btree_map_updates_text key before.files c.insert.new.self _ c.in_ok-insert.ensures.updates other)
          ∙ same_counts (never_fails (library_fail before)) (library_faults before)
          (get_by_text before.files) key _ other first;
      all = refl;
    }
