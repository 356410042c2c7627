-- The toy models T and U (rules 14.1 and 14.2).
use Rattle.std.specs.Prelude.{ℕ, Bool, false, Option, Some, List, [], ◌∷◌, ◌++◌, replicate}
use Rattle.model.specs.Model.{Model, TokenList, no_id}
use Rattle.model.specs.declared.Step.{Step}
use Rattle.model.specs.declared.Step.TheVariants.{Strip}
use Rattle.model.specs.declared.Metaspace.{Metaspace}
use Rattle.model.specs.declared.PrependScheme.TheVariants.{Always}

-- Metaspace that puts a mark in front of each section.
abbrev pub always : Bool → Option Metaspace
always split = Some (record { prepend = Always; split = split })

unfoldable pub no_tokens : TokenList
no_tokens = record { bytes = []; offsets = 0 ∷ []; ids = []; lstrip = []; rstrip = [] }

-- No steps: the places behind the count hold steps that nothing reads.
unfoldable pub no_steps : List Step
no_steps = replicate 16 (Strip false false)

-- A9 has 7, C3 has 6, no other byte has one.
unfoldable pub toy_fallback : List ℕ
toy_fallback = replicate 0xA9 no_id ++ (7 ∷ []) ++ replicate 25 no_id ++ (6 ∷ []) ++ replicate 60 no_id

-- Eight pieces: the mark, `a`, `b`, `ab`, mark and `a`, `.`, C3, A9.
unfoldable pub T : Model
T =
    record {
      piece_bytes = 0xE2 ∷ 0x96 ∷ 0x81 ∷ 0x61 ∷ 0x62 ∷ 0x61 ∷ 0x62 ∷ 0xE2 ∷ 0x96 ∷ 0x81 ∷ 0x61 ∷ 0x2E ∷ 0xC3 ∷ 0xA9 ∷ [];
      piece_offsets = 0 ∷ 3 ∷ 4 ∷ 5 ∷ 7 ∷ 11 ∷ 12 ∷ 13 ∷ 14 ∷ [];
      lookup = 5 ∷ 1 ∷ 3 ∷ 2 ∷ 7 ∷ 6 ∷ 0 ∷ 4 ∷ [];
      fallback = toy_fallback;
      left = 0 ∷ 1 ∷ [];
      right = 1 ∷ 2 ∷ [];
      result = 4 ∷ 3 ∷ [];
      rank = 1 ∷ 0 ∷ [];
      first = no_tokens;
      second = no_tokens;
      step_bytes = [];
      steps = no_steps;
      step_count = 0;
      metaspace = always false;
    }

-- T with the piece `b`, mark, `a` as id 8 and its row.
unfoldable pub U : Model
U =
    record {
      piece_bytes = T.piece_bytes ++ (0x62 ∷ 0xE2 ∷ 0x96 ∷ 0x81 ∷ 0x61 ∷ []);
      piece_offsets = T.piece_offsets ++ (19 ∷ []);
      lookup = 5 ∷ 1 ∷ 3 ∷ 2 ∷ 8 ∷ 7 ∷ 6 ∷ 0 ∷ 4 ∷ [];
      fallback = T.fallback;
      left = T.left ++ (2 ∷ []);
      right = T.right ++ (4 ∷ []);
      result = T.result ++ (8 ∷ []);
      rank = T.rank ++ (2 ∷ []);
      first = T.first;
      second = T.second;
      step_bytes = T.step_bytes;
      steps = T.steps;
      step_count = T.step_count;
      metaspace = T.metaspace;
    }
