-- 01, "Plans with their verdicts": the starred cases A to I, with B's move, as one table, and J to N for what 02,
-- request 2, says of a device that is taken again. Then tables of the same form for 02, request 4: what is built beside
-- a plan, what moves make of rows and of the held set, and the quick verdict. Each row has what an entry makes of a
-- case, computed from the definitions, and what 01 or 02 says it is: the values of the answer (0 and the value, or a
-- refusal's number and place), then each lent list. The records are the statements.
use Prim.Native.Nat.{ℕ, ◌+◌, ◌-◌}
use Rattle.std.specs.Prelude.{Result}
use Rattle.model.specs.declared.Refusal.{Refusal}
use mathlib.Core.List.{List, [], ◌∷◌, ◌++◌}
use mathlib.Core.Path.{◌≡◌, refl}
use lib.ListN.{length, replicate}
use Rattle.model.specs.Answers.{answer_values}
use Rattle.model.specs.Line.{pack}
use Rattle.model.specs.Claims.{table}
use Rattle.model.specs.Entries.{Outcome, Lent, tabling, ordering, moving}
use Rattle.model.specs.Kept.{Beside, beside_of, building, LentBeside, moving_kept, quick}
use Rattle.model.specs.Board.{devices, board}

infix 90 ◌does◌
infix 90 ◌takes◌
infix 90 ◌gives◌
infix 90 ◌starts◌
-- lines, written as 01 writes them
unfoldable pub ◌does◌ : ℕ → ℕ → ℕ
unfolding pack
j does code = pack j 0 code

unfoldable pub ◌takes◌ : ℕ → ℕ → ℕ
unfolding pack
j takes d = pack j 1 d

unfoldable pub ◌gives◌ : ℕ → ℕ → ℕ
unfolding pack
j gives d = pack j 2 d

unfoldable pub ◌starts◌ : ℕ → ℕ → ℕ
unfolding pack
j starts k = pack j 3 k

unfoldable pub plan_a : List ℕ
unfolding ◌does◌ ◌takes◌ ◌gives◌ ◌starts◌
plan_a = 1 starts 2 ∷ 1 takes 1 ∷ 1 does 7 ∷ 2 takes 0 ∷ 2 takes 1 ∷ 2 gives 1 ∷ []

-- A with line 5 moved to device 2
pub plan_b : List ℕ
unfolding ◌does◌ ◌takes◌ ◌gives◌ ◌starts◌
plan_b = 1 starts 2 ∷ 1 takes 1 ∷ 1 does 7 ∷ 2 takes 0 ∷ 2 takes 2 ∷ 2 gives 2 ∷ []

pub plan_c : List ℕ
unfolding ◌takes◌ ◌gives◌ ◌starts◌
plan_c = 1 starts 2 ∷ 1 takes 0 ∷ 1 takes 1 ∷ 1 gives 1 ∷ 2 takes 1 ∷ 2 takes 0 ∷ 2 gives 0 ∷ []

unfoldable pub plan_d : List ℕ
unfolding ◌takes◌ ◌gives◌ ◌starts◌
plan_d =
    1 starts 2 ∷ 1 takes 0 ∷ 1 takes 1 ∷ 1 gives 1 ∷ 1 gives 0 ∷ 2 takes 1 ∷ 2 takes 0 ∷ 2 gives 0 ∷ 2 gives 1 ∷ []

unfoldable pub plan_e : List ℕ
unfolding ◌takes◌ ◌gives◌ ◌starts◌
plan_e = 1 takes 0 ∷ 1 starts 2 ∷ 1 gives 0 ∷ 2 takes 0 ∷ []

unfoldable pub plan_f : List ℕ
unfolding ◌takes◌ ◌gives◌ ◌starts◌
plan_f = 1 takes 0 ∷ 1 starts 2 ∷ 2 takes 0 ∷ 2 gives 0 ∷ []

pub plan_g : List ℕ
unfolding ◌takes◌ ◌starts◌
plan_g = 1 starts 2 ∷ 1 takes 5 ∷ 2 takes 5 ∷ []

unfoldable pub plan_h : List ℕ
unfolding ◌takes◌ ◌gives◌ ◌starts◌
plan_h =
    1 starts 2 ∷ 1 starts 3 ∷ 1 takes 0 ∷ 1 takes 1 ∷ 1 gives 1
    ∷ 2 takes 1 ∷ 2 takes 2 ∷ 2 gives 2
    ∷ 3 takes 2 ∷ 3 takes 0 ∷ 3 gives 0 ∷ []

pub plan_i : List ℕ
plan_i = []

-- Devices taken again (02, request 2), each worked out by hand.

-- J: 01's case that was refused: a device taken again and never given back. Line 1 is the one lasting take, line 2
-- claims nothing: sets {3} and {}, so 8 and 0; the order goes by the lines.
unfoldable pub plan_j : List ℕ
unfolding ◌takes◌
plan_j = 1 takes 3 ∷ 1 takes 3 ∷ []

-- K: taken again inside a pair, under another device. The pair is one turn, and its last give frees the device. Line 8
-- claims {0}; lines 4 to 7 and 9 nothing; line 3 {1}; line 2 {0, 1}; line 1 that and line 8's.
unfoldable pub plan_k : List ℕ
unfolding ◌takes◌ ◌gives◌ ◌starts◌
plan_k =
    1 starts 2 ∷ 1 takes 0 ∷ 1 takes 1 ∷ 1 takes 0 ∷ 1 gives 0 ∷ 1 gives 1 ∷ 1 gives 0 ∷ 2 takes 0 ∷ 2 gives 0 ∷ []

-- L: taken again under a lasting take. The take again waits for nothing and keeps nobody waiting, and beyond the
-- lasting take nothing is claimed, so that its row is empty. Lines 6, 2 and 1 claim {0}, the others nothing. Line 2
-- waits for line 6; after 6 and 7 it goes, and then the rest of job 1.
pub plan_l : List ℕ
unfolding ◌does◌ ◌takes◌ ◌gives◌ ◌starts◌
plan_l = 1 starts 2 ∷ 1 takes 0 ∷ 1 takes 0 ∷ 1 does 7 ∷ 1 gives 0 ∷ 2 takes 0 ∷ 2 gives 0 ∷ []

-- M: a take around another of the same device; and M with line 1 moved to device 1, so that line 2 becomes outermost:
-- it claims {0} now, and line 1 {0, 1}, where they claimed nothing and {0}; two sets. The move back makes line 2 taken
-- again.
unfoldable pub plan_m : List ℕ
unfolding ◌takes◌ ◌gives◌
plan_m = 1 takes 0 ∷ 1 takes 0 ∷ 1 gives 0 ∷ 1 gives 0 ∷ []

pub plan_m' : List ℕ
unfolding ◌takes◌ ◌gives◌
plan_m' = 1 takes 1 ∷ 1 takes 0 ∷ 1 gives 0 ∷ 1 gives 1 ∷ []

-- N: a take that is taken again and never given back, and is no lasting take: after line 5 it goes on as an ordinary
-- line, before job 2's lasting take of 3. Lines 2, 5 and 7 last, of 5, 0 and 3; line 2 goes before 7, since line 3
-- still takes 3 and line 6 does not count. Line 7 claims {3}, line 6 nothing, 5 and 4 {0}, 3 {0, 3}, 2 {0, 3, 5}, and
-- so does 1.
pub plan_n : List ℕ
unfolding ◌takes◌ ◌gives◌ ◌starts◌
plan_n = 1 starts 2 ∷ 1 takes 5 ∷ 1 takes 3 ∷ 1 gives 3 ∷ 1 takes 0 ∷ 1 takes 5 ∷ 2 takes 3 ∷ []

-- What an entry makes of a plan. The lent lists are one place longer than needed and filled with 99, which no case
-- has, so that a row also shows what a refusal leaves and what stays past the last entry.
unfoldable pub lent : List ℕ → List ℕ
lent p = replicate (length p + 1) 99

unfoldable pub tabled : List ℕ → List (List ℕ)
unfolding tabling lent
tabled p =
    let o : Outcome (Result ℕ Refusal) (List ℕ) = tabling board p (lent p) in answer_values o.answer ∷ o.left ∷ []

unfoldable pub verdict_on : List ℕ → List (List ℕ)
unfolding ordering lent
verdict_on p =
    let o : Outcome (Result ℕ Refusal) (List ℕ) = ordering board p (lent p) in answer_values o.answer ∷ o.left ∷ []

-- of a plan with its own table
unfoldable pub moved : List ℕ → ℕ → ℕ → List (List ℕ)
unfolding moving table
moved p line device =
    let o : Outcome (Result ℕ Refusal) Lent = moving board p (table p ++ (99 ∷ [])) line device in
    answer_values o.answer ∷ o.left.plan ∷ o.left.sets ∷ []

-- what is said: an order and how many devices stay held; or a refusal
unfoldable pub accepted : ℕ → List ℕ → List (List ℕ)
accepted still_held order = (0 ∷ still_held ∷ []) ∷ (order ++ (99 ∷ [])) ∷ []

unfoldable pub refused : ℕ → ℕ → List ℕ → List (List ℕ)
unfolding lent
refused number place p = (number ∷ place ∷ []) ∷ lent p ∷ []

-- The table.
pub record Starred : Type 0 where
  pub A : verdict_on plan_a ≡ accepted 2 (1 ∷ 4 ∷ 5 ∷ 6 ∷ 2 ∷ 3 ∷ [])
  pub a_table : tabled plan_a ≡ (0 ∷ 6 ∷ []) ∷ (3 ∷ 2 ∷ 0 ∷ 3 ∷ 2 ∷ 0 ∷ 99 ∷ []) ∷ []
  pub b_move : moved plan_a 5 2 ≡ (0 ∷ 3 ∷ []) ∷ plan_b ∷ (7 ∷ 2 ∷ 0 ∷ 5 ∷ 4 ∷ 0 ∷ 99 ∷ []) ∷ []
  pub b_table : tabled plan_b ≡ (0 ∷ 6 ∷ []) ∷ (7 ∷ 2 ∷ 0 ∷ 5 ∷ 4 ∷ 0 ∷ 99 ∷ []) ∷ []
  pub B : verdict_on plan_b ≡ accepted 2 (1 ∷ 4 ∷ 5 ∷ 6 ∷ 2 ∷ 3 ∷ [])
  pub C : verdict_on plan_c ≡ refused 10 0 plan_c
  pub D : verdict_on plan_d ≡ accepted 0 (1 ∷ 2 ∷ 3 ∷ 4 ∷ 5 ∷ 6 ∷ 7 ∷ 8 ∷ 9 ∷ [])
  pub E : verdict_on plan_e ≡ accepted 1 (1 ∷ 2 ∷ 3 ∷ 4 ∷ [])
  pub F : verdict_on plan_f ≡ refused 10 0 plan_f
  pub G : verdict_on plan_g ≡ refused 9 5 plan_g
  pub H : verdict_on plan_h ≡ refused 10 0 plan_h
  pub I : verdict_on plan_i ≡ accepted 0 []
  pub J : verdict_on plan_j ≡ accepted 1 (1 ∷ 2 ∷ [])
  pub j_table : tabled plan_j ≡ (0 ∷ 2 ∷ []) ∷ (8 ∷ 0 ∷ 99 ∷ []) ∷ []
  pub K : verdict_on plan_k ≡ accepted 0 (1 ∷ 2 ∷ 3 ∷ 4 ∷ 5 ∷ 6 ∷ 7 ∷ 8 ∷ 9 ∷ [])
  pub k_table : tabled plan_k ≡ (0 ∷ 9 ∷ []) ∷ (3 ∷ 3 ∷ 2 ∷ 0 ∷ 0 ∷ 0 ∷ 0 ∷ 1 ∷ 0 ∷ 99 ∷ []) ∷ []
  pub L : verdict_on plan_l ≡ accepted 1 (1 ∷ 6 ∷ 7 ∷ 2 ∷ 3 ∷ 4 ∷ 5 ∷ [])
  pub l_table : tabled plan_l ≡ (0 ∷ 7 ∷ []) ∷ (1 ∷ 1 ∷ 0 ∷ 0 ∷ 0 ∷ 1 ∷ 0 ∷ 99 ∷ []) ∷ []
  pub m_move : moved plan_m 1 1 ≡ (0 ∷ 2 ∷ []) ∷ plan_m' ∷ (3 ∷ 1 ∷ 0 ∷ 0 ∷ 99 ∷ []) ∷ []
  pub m_back : moved plan_m' 1 0 ≡ (0 ∷ 2 ∷ []) ∷ plan_m ∷ (1 ∷ 0 ∷ 0 ∷ 0 ∷ 99 ∷ []) ∷ []
  pub N : verdict_on plan_n ≡ accepted 3 (1 ∷ 2 ∷ 3 ∷ 4 ∷ 5 ∷ 6 ∷ 7 ∷ [])
  pub n_table : tabled plan_n ≡ (0 ∷ 7 ∷ []) ∷ (41 ∷ 41 ∷ 9 ∷ 1 ∷ 1 ∷ 0 ∷ 8 ∷ 99 ∷ []) ∷ []

pub starred : Starred
unfolding tabled verdict_on moved accepted refused lent plan_a plan_b plan_c plan_d plan_e plan_f plan_g plan_h plan_i
    plan_j plan_k
    plan_l plan_m plan_m' plan_n
starred =
    record {
      A = refl;
      a_table = refl;
      b_move = refl;
      b_table = refl;
      B = refl;
      C = refl;
      D = refl;
      E = refl;
      F = refl;
      G = refl;
      H = refl;
      I = refl;
      J = refl;
      j_table = refl;
      K = refl;
      k_table = refl;
      L = refl;
      l_table = refl;
      m_move = refl;
      m_back = refl;
      N = refl;
      n_table = refl;
    }

-- ---- 02, request 4: rows and held set kept beside the table

-- C with line 3, a pair's take, moved to device 2; and with line 2, a lasting take, moved to device 3
pub plan_c' : List ℕ
unfolding ◌takes◌ ◌gives◌ ◌starts◌
plan_c' = 1 starts 2 ∷ 1 takes 0 ∷ 1 takes 2 ∷ 1 gives 2 ∷ 2 takes 1 ∷ 2 takes 0 ∷ 2 gives 0 ∷ []

pub plan_c'' : List ℕ
unfolding ◌takes◌ ◌gives◌ ◌starts◌
plan_c'' = 1 starts 2 ∷ 1 takes 3 ∷ 1 takes 1 ∷ 1 gives 1 ∷ 2 takes 1 ∷ 2 takes 0 ∷ 2 gives 0 ∷ []

-- J with its lasting take moved to device 1, so that the take again comes to be outermost, and lasts
pub plan_j' : List ℕ
unfolding ◌takes◌
plan_j' = 1 takes 1 ∷ 1 takes 3 ∷ []

-- O: two lasting takes of a device, at lines 2 and 5, and a pair after each; its row has 1 for the first and 0 for the
-- other. O with line 3 moved to device 2.
pub plan_o : List ℕ
unfolding ◌takes◌ ◌gives◌ ◌starts◌
plan_o = 1 starts 2 ∷ 1 takes 3 ∷ 1 takes 1 ∷ 1 gives 1 ∷ 2 takes 3 ∷ 2 takes 0 ∷ 2 gives 0 ∷ []

pub plan_o' : List ℕ
unfolding ◌takes◌ ◌gives◌ ◌starts◌
plan_o' = 1 starts 2 ∷ 1 takes 3 ∷ 1 takes 2 ∷ 1 gives 2 ∷ 2 takes 3 ∷ 2 takes 0 ∷ 2 gives 0 ∷ []

-- Lists to lend, one place longer than needed, with 99 in that place: the plan's own; and its table with rows and a
-- held set that are not its own, 99 in each place. As a set 99 has the devices 0, 1, 5 and 6.
unfoldable pub own_lent : List ℕ → Beside
unfolding beside_of
own_lent p =
    let b : Beside = beside_of devices p in
    record { sets = b.sets ++ (99 ∷ []); rows = b.rows ++ (99 ∷ []); held = b.held ++ (99 ∷ []) }

unfoldable pub foreign : List ℕ → Beside
foreign sets = record { sets = sets; rows = replicate (devices + 1) 99; held = 99 ∷ 99 ∷ [] }

-- 33 rows: the first four, the others up to 32, and the place past them
unfoldable pub four_of : ℕ → ℕ → ℕ → ℕ → ℕ → List ℕ
four_of a b c d others = a ∷ b ∷ c ∷ d ∷ replicate (devices - 4) others ++ (99 ∷ [])

unfoldable pub built : List ℕ → Beside → List (List ℕ)
unfolding building
built p b =
    let o : Outcome (Result ℕ Refusal) Beside = building devices p b in
    answer_values o.answer ∷ o.left.sets ∷ o.left.rows ∷ o.left.held ∷ []

unfoldable pub rows_after : List ℕ → Beside → ℕ → ℕ → List (List ℕ)
unfolding moving_kept
rows_after p b line device =
    let o : Outcome (Result ℕ Refusal) LentBeside = moving_kept devices p b line device in
    answer_values o.answer ∷ o.left.plan ∷ o.left.beside.rows ∷ []

unfoldable pub held_after : List ℕ → Beside → ℕ → ℕ → List ℕ
unfolding moving_kept
held_after p b line device = (moving_kept devices p b line device).left.beside.held

unfoldable pub quickly : List ℕ → List ℕ → List ℕ
unfolding quick
quickly p rs = answer_values (quick devices p rs)

-- Building: C's row of 0 is {1}, since line 3 takes 1 after line 2, and that of 1 is {0}; both are held to the end. A
-- list too short is told in the order table, rows, held set, and nothing is written.
pub record StarredBuilt : Type 0 where
  pub C : built plan_c (foreign (lent plan_c))
      ≡ (0 ∷ 7 ∷ []) ∷ (3 ∷ 3 ∷ 2 ∷ 0 ∷ 3 ∷ 1 ∷ 0 ∷ 99 ∷ []) ∷ four_of 2 1 0 0 0 ∷ (3 ∷ 99 ∷ []) ∷ []
  pub O : built plan_o (foreign (lent plan_o))
      ≡ (0 ∷ 7 ∷ []) ∷ (11 ∷ 10 ∷ 2 ∷ 0 ∷ 9 ∷ 1 ∷ 0 ∷ 99 ∷ []) ∷ four_of 0 0 0 3 0 ∷ (8 ∷ 99 ∷ []) ∷ []
  pub no_room : built plan_c (record { sets = 99 ∷ []; rows = 99 ∷ []; held = [] })
      ≡ (11 ∷ 7 ∷ []) ∷ (99 ∷ []) ∷ (99 ∷ []) ∷ [] ∷ []
  pub no_rows : built plan_c (record { sets = lent plan_c; rows = 99 ∷ []; held = [] })
      ≡ (11 ∷ 32 ∷ []) ∷ lent plan_c ∷ (99 ∷ []) ∷ [] ∷ []
  pub no_held : built plan_c (record { sets = lent plan_c; rows = lent plan_c ++ replicate 24 99; held = [] })
      ≡ (11 ∷ 1 ∷ []) ∷ lent plan_c ∷ (lent plan_c ++ replicate 24 99) ∷ [] ∷ []

-- Rows after a move. C: on the way of line 3 nothing lasts but line 2, so that the row of 0 changes with the new
-- device; moved to device 3, line 2 takes its row along. J: the row of 1 gets what the take again of 3 now claims.
-- O: the row of 3 keeps the part of its other take. Of rows that are not the plan's own those of the devices concerned
-- are written, also by a move to the present device, and no others. The last table is not the plan's own at lines 5
-- and 6, nor at line 1, which joins line 5's: the row of 1 is what it has for line 6.
pub record StarredRows : Type 0 where
  pub C : rows_after plan_c (own_lent plan_c) 3 2 ≡ (0 ∷ 3 ∷ []) ∷ plan_c' ∷ four_of 4 1 0 0 0 ∷ []
  pub c_lasting : rows_after plan_c (own_lent plan_c) 2 3 ≡ (0 ∷ 2 ∷ []) ∷ plan_c'' ∷ four_of 0 1 0 2 0 ∷ []
  pub J : rows_after plan_j (own_lent plan_j) 1 1 ≡ (0 ∷ 2 ∷ []) ∷ plan_j' ∷ four_of 0 8 0 0 0 ∷ []
  pub O : rows_after plan_o (own_lent plan_o) 3 2 ≡ (0 ∷ 3 ∷ []) ∷ plan_o' ∷ four_of 0 0 0 5 0 ∷ []
  pub c_foreign : rows_after plan_c (foreign (table plan_c)) 3 2 ≡ (0 ∷ 3 ∷ []) ∷ plan_c' ∷ four_of 4 1 0 99 99 ∷ []
  pub c_lasting_foreign : rows_after plan_c (foreign (table plan_c)) 2 3
      ≡ (0 ∷ 2 ∷ []) ∷ plan_c'' ∷ four_of 0 99 99 2 99 ∷ []
  pub c_present : rows_after plan_c (foreign (table plan_c)) 3 1 ≡ (0 ∷ 0 ∷ []) ∷ plan_c ∷ four_of 2 1 99 99 99 ∷ []
  pub c_table : rows_after plan_c (foreign (99 ∷ 3 ∷ 2 ∷ 0 ∷ 99 ∷ 8 ∷ 0 ∷ [])) 3 2
      ≡ (0 ∷ 3 ∷ []) ∷ plan_c' ∷ four_of 4 8 0 99 99 ∷ []

-- The held set after the same moves: a pair's take changes nothing of it; a lasting take's old device goes and its new
-- one comes, unless the old one is taken to the end all the same (J, and line 5 of O). Other bits stay as lent.
pub record StarredHeld : Type 0 where
  pub C : held_after plan_c (own_lent plan_c) 3 2 ≡ 3 ∷ 99 ∷ []
  pub c_lasting : held_after plan_c (own_lent plan_c) 2 3 ≡ 10 ∷ 99 ∷ []
  pub J : held_after plan_j (own_lent plan_j) 1 1 ≡ 10 ∷ 99 ∷ []
  pub O : held_after plan_o (own_lent plan_o) 5 2 ≡ 12 ∷ 99 ∷ []
  pub c_foreign : held_after plan_c (foreign (table plan_c)) 3 2 ≡ 99 ∷ 99 ∷ []
  pub c_lasting_foreign : held_after plan_c (foreign (table plan_c)) 2 3 ≡ 106 ∷ 99 ∷ []

-- The quick verdict: by the plan's own rows as the verdict. 9 is of the plan, whatever the rows, also where they have a
-- circle; 10 is of the rows as lent, where the plan has a circle and where it has none. The count is of the plan.
pub record StarredQuick : Type 0 where
  pub A : quickly plan_a (own_lent plan_a).rows ≡ 0 ∷ 2 ∷ []
  pub C : quickly plan_c (own_lent plan_c).rows ≡ 10 ∷ 0 ∷ []
  pub c_mended : quickly plan_c' (own_lent plan_c').rows ≡ 0 ∷ 2 ∷ []
  pub G : quickly plan_g (own_lent plan_g).rows ≡ 9 ∷ 5 ∷ []
  pub c_no_rows : quickly plan_c (replicate devices 0) ≡ 0 ∷ 2 ∷ []
  pub d_circle : quickly plan_d (0 ∷ 4 ∷ 2 ∷ replicate 29 0) ≡ 10 ∷ 1 ∷ []
  pub g_circle : quickly plan_g (1 ∷ replicate 31 0) ≡ 9 ∷ 5 ∷ []
  pub too_short : quickly plan_g (replicate 31 0) ≡ 11 ∷ 32 ∷ []

pub starred_built : StarredBuilt
unfolding built foreign lent four_of plan_c plan_o
starred_built = record { C = refl; O = refl; no_room = refl; no_rows = refl; no_held = refl }

pub starred_rows : StarredRows
unfolding rows_after own_lent foreign four_of plan_c plan_c' plan_c'' plan_j plan_j' plan_o plan_o'
starred_rows =
    record {
      C = refl;
      c_lasting = refl;
      J = refl;
      O = refl;
      c_foreign = refl;
      c_lasting_foreign = refl;
      c_present = refl;
      c_table = refl;
    }

pub starred_held : StarredHeld
unfolding held_after own_lent foreign plan_c plan_j plan_o
starred_held = record { C = refl; c_lasting = refl; J = refl; O = refl; c_foreign = refl; c_lasting_foreign = refl }

pub starred_quick : StarredQuick
unfolding quickly own_lent plan_a plan_c plan_c' plan_d plan_g
starred_quick =
    record {
      A = refl;
      C = refl;
      c_mended = refl;
      G = refl;
      c_no_rows = refl;
      d_circle = refl;
      g_circle = refl;
      too_short = refl;
    }
