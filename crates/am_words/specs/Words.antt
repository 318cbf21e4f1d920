-- The random words of a tenant.
use Rattle.std.specs.Prelude.{ℕ, ◌+◌, ◌*◌, ◌%◌, ◌^◌, List, ◌++◌}
use Rattle.rand_chacha.specs.ChaCha.{ChaCha, key_of, word_at}
use Rattle.sha2.specs.Sha256.{sha256}

-- the number of the stream of an instance in an incarnation
abbrev pub stream_of : ℕ → ℕ → ℕ
stream_of instance incarnation = instance * 2 ^ 32 + incarnation

-- the words that a generator gives, by place: ChaCha with 10 double rounds
abbrev pub words_in : ChaCha → ℕ → ℕ
words_in generator = word_at 10 generator.key generator.stream

-- the generator of a tenant's words at an instance in an incarnation: its key is the hash of the service key followed by the
-- tenant's name
abbrev pub generator_of : (service_key tenant : List ℕ) (instance incarnation place : ℕ) → ChaCha
generator_of service_key tenant instance incarnation place = record {
  key = key_of (sha256 (service_key ++ tenant));
  stream = stream_of instance incarnation;
  word_pos = place;
}

-- these words, by place
abbrev pub words_of : (service_key tenant : List ℕ) (instance incarnation : ℕ) → ℕ → ℕ
words_of service_key tenant instance incarnation = words_in (generator_of service_key tenant instance incarnation 0)

-- the place after so many more words, which begin again after 2 ^ 68
abbrev pub place_after : ℕ → ℕ → ℕ
place_after place count = (place + count) % 2 ^ 68
