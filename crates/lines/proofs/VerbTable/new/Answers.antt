-- `lines::VerbTable::new`: verb after verb, both lists are those of the definition.
use Rattle.lines.specs.Verbs.{all_entries, all_words}
use Rattle.lines.proofs.VerbTable.new.Goals as goal

pub invariant_of-result : goal.invariant_of-result
unfolding all_entries all_words
invariant_of-result c = record {
  first =
      rw (
        c.list_verb-5.ensures.first,
        c.list_verb-4.ensures.first,
        c.list_verb-3.ensures.first,
        c.list_verb-2.ensures.first,
        c.list_verb.ensures.first,
      );
  bytes =
      rw (
        c.list_verb-5.ensures.bytes,
        c.list_verb-4.ensures.bytes,
        c.list_verb-3.ensures.bytes,
        c.list_verb-2.ensures.bytes,
        c.list_verb.ensures.bytes,
      );
}
