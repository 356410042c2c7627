-- What the toy models give, P1 to P12 (rule 14.3), proved from the definitions by one computed test over one list.
use Rattle.std.specs.Prelude.{ℕ, ◌≡◌, refl, true, false, List, [], ◌∷◌, length, replicate}
use Rattle.utf8.specs.Lists.{all}
use Rattle.model.specs.Model.{Model}
use Rattle.model.specs.Answers.{done, filled}
use Rattle.theorems.specs.Cases.{Call, encode, fragments, decode, Case, agrees}
use Rattle.theorems.specs.Toys.{T, U, no_tokens, no_steps, toy_fallback}

-- The call, lent eight cells that hold 9 and no scratch, is accepted with this result and these drops and skips.
unfoldable pub gives : Model → Call → List ℕ → ℕ → ℕ → Case
gives m call result drops skips =
    record {
      model = m;
      call = call;
      before = record { out = replicate 8 9; scratch_a = []; scratch_b = [] };
      answer = done (length result) drops skips;
      after = record { out = filled result (replicate 8 9); scratch_a = []; scratch_b = [] };
    }

unfoldable pub table : List Case
table =
    gives T (encode (0x61 ∷ 0x62 ∷ 0x20 ∷ 0x61 ∷ []) false) (0 ∷ 3 ∷ 4 ∷ []) 0 0
    ∷ gives T (encode (0x20 ∷ 0x61 ∷ []) false) (4 ∷ []) 0 0
    ∷ gives T (encode (0xC3 ∷ 0xA9 ∷ []) false) (0 ∷ 6 ∷ 7 ∷ []) 0 0
    ∷ gives T (encode (0x63 ∷ []) false) (0 ∷ []) 1 0
    ∷ gives T (encode (0x61 ∷ 0x2E ∷ 0x62 ∷ []) false) (4 ∷ 5 ∷ 2 ∷ []) 0 0
    ∷ gives U (encode (0x62 ∷ 0x20 ∷ 0x61 ∷ []) false) (0 ∷ 8 ∷ []) 0 0
    ∷ gives U (encode (0x62 ∷ 0x20 ∷ 0x62 ∷ []) false) (0 ∷ 2 ∷ 0 ∷ 2 ∷ []) 0 0
    ∷ gives T (fragments (0x61 ∷ 0x20 ∷ 0x62 ∷ 0x20 ∷ 0x61 ∷ []) 0) (0 ∷ 1 ∷ 1 ∷ 3 ∷ 3 ∷ 5 ∷ []) 0 0
    ∷ gives U (fragments (0x61 ∷ 0x20 ∷ 0x62 ∷ 0x20 ∷ 0x61 ∷ []) 0) (0 ∷ 1 ∷ 1 ∷ 5 ∷ []) 0 0
    ∷ gives T (fragments (0x61 ∷ 0x20 ∷ 0x20 ∷ 0x62 ∷ []) 2) (0 ∷ 4 ∷ []) 0 0
    ∷ gives T (decode (4 ∷ [])) (0x61 ∷ []) 0 0
    ∷ gives T (decode (0 ∷ 99 ∷ 1 ∷ [])) (0x61 ∷ []) 0 1
    ∷ []

pub table_holds : all agrees table ≡ true
unfolding agrees table gives T U no_tokens no_steps toy_fallback
table_holds = refl
