-- The one form of a promise (01, "Refusal numbers" and "How tight the statements are"): of everything that it was given
-- and lent, an entry answers with the values of the outcome that `model` defines, and leaves in the lent lists what
-- that outcome says. Then the words for what follows of every entry alike.
use Rattle.std.specs.Prelude.{ℕ, ◌<◌, ◌≤◌, List, ◌≡◌, length}
use Rattle.model.specs.Lists.{over}
use Rattle.model.specs.Entries.{Outcome}
use Rattle.model.specs.declared.Refusal.{Refusal}
use Rattle.model.specs.declared.Refusal.TheVariants.{ListTooShort}
use Rattle.model.specs.InOne.{in_one}

pub record Meets {A L : Type 0} (values : A → List ℕ) (o : Outcome A L) (answer : A) (left : L) : Type 0 where
  pub answers : values answer ≡ values o.answer
  pub leaves : left ≡ o.left

-- the same for callers in C and Rust, who get the values of the outcome behind in one number
pub record MeetsInOne {A L : Type 0} (values : A → List ℕ) (behind : Outcome A L) (answer : ℕ) (left : L) : Type 0 where
  pub answers : answer ≡ in_one (values behind.answer)
  pub leaves : left ≡ behind.left

-- ---- what follows

-- The listed cases of an entry, in their order: what it is given is broken; otherwise, what it is given being sound,
-- the lent list is too short, 11; otherwise a case of the entry's own.
pub data Listed (Sound : Type 0) (Broken : Refusal → Type 0) (room needed : ℕ) (Further : Refusal → Type 0)
    : Refusal → Type 0 where
  faulty : (r : Refusal) → Broken r → Listed Sound Broken room needed Further r
  short : Sound → room < needed → Listed Sound Broken room needed Further (ListTooShort needed)
  further : (r : Refusal) → Sound → needed ≤ room → Further r → Listed Sound Broken room needed Further r

-- an entry without a case of its own
abbrev pub NoFurther : Refusal → Type 0
NoFurther r = ⊥

-- A refusal is that of a listed case, and leaves what was lent.
pub record Refuses {L : Type 0} (Case : Refusal → Type 0) (lent : L) (r : Refusal) (left : L) : Type 0 where
  pub listed : Case r
  pub leaves : left ≡ lent

-- A success of an entry that fills a list: what is new stands in front of what the list has past it, and its length is
-- the count.
pub record Fills (Sound : Type 0) (new lent : List ℕ) (count : ℕ) (left : List ℕ) : Type 0 where
  pub sound : Sound
  pub room : length new ≤ length lent
  pub counts : count ≡ length new
  pub leaves : left ≡ over new lent
