-- The plain machine's replies to whole programs, computed by the definition.
use Rattle.std.proofs.Common.{◌≡◌, ℕ, zero, suc, ◌+◌, Bool, true, false, List, [], ◌∷◌, ◌++◌, refl}
use Rattle.std.specs.Prelude.{map, replicate}
use Rattle.channel_commands.specs.Data.{CallData, mount, demount, command, ReplyData, done, mounted, demounted, already_mounted, no_volume, in_chain}
use Rattle.ckd_plain.specs.Checks.{admitted_command}
use Rattle.ckd_plain.specs.Index.{pass_index, next_within, next_record, same_record, to_home}
use Rattle.ckd_plain.specs.Effects.{search, read_outcome, write_, effect}
use Rattle.ckd_plain.specs.Plain.{command_answer, answer_on_tracks, plain, response_to, start_of, blank_volumes, replies_of, sense}

abbrev VOL001 : List ℕ
VOL001 = 86 ∷ 79 ∷ 76 ∷ 48 ∷ 48 ∷ 49 ∷ []

-- what host 1 is told, where volume 0 with serial VOL001 is blank at first, and read-only or not
abbrev replies_where : Bool → List CallData → List ReplyData
replies_where read_only calls = replies_of (start_of (blank_volumes ((0, VOL001, read_only) ∷ []))) (map (λ (call : CallData). (1, call)) calls)

abbrev replies : List CallData → List ReplyData
replies calls = replies_where false calls

abbrev then : ℕ → List ℕ → CallData
then code argument = command code argument true

abbrev last : ℕ → List ℕ → CallData
last code argument = command code argument false

-- seek of cylinder and head, and the ID of a record there
abbrev seek : ℕ → ℕ → CallData
seek c h = then 0x07 (0 ∷ 0 ∷ 0 ∷ c ∷ 0 ∷ h ∷ [])

abbrev id : ℕ → ℕ → ℕ → List ℕ
id c h r = 0 ∷ c ∷ 0 ∷ h ∷ r ∷ []

abbrev mounts : CallData
mounts = mount 0 false

-- done, done with data, met, end of file, unit check
abbrev ok : ReplyData
ok = done 0x0C []

abbrev gives : List ℕ → ReplyData
gives bytes = done 0x0C bytes

abbrev met : ReplyData
met = done 0x4C []

abbrev end_of_file : ReplyData
end_of_file = done 0x0D []

abbrev checked : ReplyData
checked = done 0x0E []

-- the program that writes R1 with data 41 42 43 on cylinder 5, head 3
abbrev first_record : List CallData
first_record = seek 5 3 ∷ then 0x31 (id 5 3 0) ∷ last 0x1D (id 5 3 1 ++ 0 ∷ 0 ∷ 3 ∷ 0x41 ∷ 0x42 ∷ 0x43 ∷ []) ∷ []

-- one record is written and read back: its search passes R0 first
a_record_is_written_and_read_back : replies (mounts ∷ first_record ++ seek 5 3 ∷ then 0x31 (id 5 3 1) ∷ then 0x31 (id 5 3 1) ∷ last 0x06 [] ∷ [])
    ≡ mounted ∷ ok ∷ met ∷ ok ∷ ok ∷ ok ∷ met ∷ gives (0x41 ∷ 0x42 ∷ 0x43 ∷ []) ∷ []
unfolding admitted_command pass_index next_within next_record same_record to_home search read_outcome write_ effect command_answer answer_on_tracks plain response_to replies_of
a_record_is_written_and_read_back = refl

-- a search that isn't met ends at the second pass of the index
no_record_is_found : replies (mounts ∷ first_record ++ seek 5 3 ∷ then 0x31 (id 5 3 9) ∷ then 0x31 (id 5 3 9) ∷ then 0x31 (id 5 3 9) ∷ then 0x31 (id 5 3 9) ∷ then 0x31 (id 5 3 9) ∷ last 0x04 [] ∷ [])
    ≡ mounted ∷ ok ∷ met ∷ ok ∷ ok ∷ ok ∷ ok ∷ ok ∷ ok ∷ checked ∷ gives (sense 0 0x08 0) ∷ []
unfolding admitted_command pass_index next_within next_record same_record to_home search read_outcome write_ effect command_answer answer_on_tracks plain response_to replies_of
no_record_is_found = refl

-- a multi-track search goes on to the cylinder's last head, and ends there
a_multi_track_search_ends_with_its_cylinder : replies (mounts ∷ seek 5 17 ∷ then 0xB1 (id 5 17 9) ∷ then 0xB1 (id 5 17 9) ∷ then 0xB1 (id 5 17 9) ∷ last 0x04 [] ∷ [])
    ≡ mounted ∷ ok ∷ ok ∷ ok ∷ checked ∷ gives (sense 0 0x20 0) ∷ []
unfolding admitted_command pass_index next_within next_record same_record to_home search read_outcome write_ effect command_answer answer_on_tracks plain response_to replies_of
a_multi_track_search_ends_with_its_cylinder = refl

-- with the mask 18 no command seeks, and no search goes on to the next head
a_mask_protects_its_file : replies (mounts ∷ then 0x1F (0x18 ∷ []) ∷ last 0x07 (replicate 6 0) ∷ last 0x04 [] ∷ then 0x1F (0x18 ∷ []) ∷ then 0xB1 (id 0 0 9) ∷ then 0xB1 (id 0 0 9) ∷ last 0x04 [] ∷ [])
    ≡ mounted ∷ ok ∷ checked ∷ gives (sense 0 0x04 0) ∷ ok ∷ ok ∷ checked ∷ gives (sense 0 0x04 0) ∷ []
unfolding admitted_command pass_index next_within next_record same_record to_home search read_outcome write_ effect command_answer answer_on_tracks plain response_to replies_of
a_mask_protects_its_file = refl

-- a write without its search is rejected, and so is one that the mask inhibits
a_write_needs_its_search : replies (mounts ∷ first_record ++ last 0x05 (0x41 ∷ []) ∷ last 0x04 [] ∷ then 0x1F (0x40 ∷ []) ∷ seek 5 3 ∷ then 0x31 (id 5 3 1) ∷ then 0x31 (id 5 3 1) ∷ last 0x05 (0x41 ∷ []) ∷ last 0x04 [] ∷ [])
    ≡ mounted ∷ ok ∷ met ∷ ok ∷ checked ∷ gives (sense 0x80 0 0) ∷ ok ∷ ok ∷ ok ∷ met ∷ checked ∷ gives (sense 0x80 0 0) ∷ []
unfolding admitted_command pass_index next_within next_record same_record to_home search read_outcome write_ effect command_answer answer_on_tracks plain response_to replies_of
a_write_needs_its_search = refl

-- on a read-only volume a write is file protected, whose sense says so, and searches and reads go on; a write that isn't
-- permitted is rejected as elsewhere
a_read_only_volume_takes_no_write : replies_where true (mounts ∷ first_record ++ last 0x04 [] ∷ seek 5 3 ∷ then 0x31 (id 5 3 1) ∷ last 0x1A [] ∷ last 0x05 (0x41 ∷ []) ∷ last 0x04 [] ∷ [])
    ≡ mounted ∷ ok ∷ met ∷ checked ∷ gives (sense 0 0x04 0) ∷ ok ∷ ok ∷ gives (0 ∷ 0 ∷ 5 ∷ 0 ∷ 3 ∷ []) ∷ checked ∷ gives (sense 0x80 0 0) ∷ []
unfolding admitted_command pass_index next_within next_record same_record to_home search read_outcome write_ effect command_answer answer_on_tracks plain response_to replies_of
a_read_only_volume_takes_no_write = refl

-- search ID equal or high that is met by equality lets no write follow
only_a_search_equal_lets_a_write_follow : replies (mounts ∷ first_record ++ seek 5 3 ∷ then 0x71 (id 5 3 1) ∷ then 0x71 (id 5 3 1) ∷ last 0x05 (0x58 ∷ []) ∷ seek 5 3 ∷ then 0x31 (id 5 3 1) ∷ then 0x31 (id 5 3 1) ∷ last 0x05 (0x58 ∷ []) ∷ last 0x06 [] ∷ [])
    ≡ mounted ∷ ok ∷ met ∷ ok ∷ ok ∷ ok ∷ met ∷ checked ∷ ok ∷ ok ∷ met ∷ ok ∷ gives (0x58 ∷ 0 ∷ 0 ∷ []) ∷ []
unfolding admitted_command pass_index next_within next_record same_record to_home search read_outcome write_ effect command_answer answer_on_tracks plain response_to replies_of
only_a_search_equal_lets_a_write_follow = refl

-- a record with a key: its searches equal and high, its data, and its count, key and data
keys_are_searched_and_read : replies (mounts ∷ seek 0 0 ∷ then 0x31 (id 0 0 0) ∷ last 0x1D (id 0 0 1 ++ 2 ∷ 0 ∷ 1 ∷ 0x41 ∷ 0x42 ∷ 0x07 ∷ [])
    ∷ seek 0 0 ∷ then 0x29 (0x41 ∷ 0x42 ∷ []) ∷ last 0x06 [] ∷ seek 0 0 ∷ then 0x49 (0x41 ∷ 0x41 ∷ []) ∷ last 0x06 [] ∷ last 0x1E [] ∷ [])
    ≡ mounted ∷ ok ∷ met ∷ ok ∷ ok ∷ met ∷ gives (7 ∷ []) ∷ ok ∷ met ∷ gives (7 ∷ []) ∷ gives (id 0 0 1 ++ 2 ∷ 0 ∷ 1 ∷ 0x41 ∷ 0x42 ∷ 0x07 ∷ []) ∷ []
unfolding admitted_command pass_index next_within next_record same_record to_home search read_outcome write_ effect command_answer answer_on_tracks plain response_to replies_of
keys_are_searched_and_read = refl

-- read data behind the count of R0 reads R0, and read count goes on to R1
record_zero_is_read : replies (mounts ∷ first_record ++ seek 5 3 ∷ then 0x31 (id 5 3 0) ∷ last 0x06 [] ∷ seek 5 3 ∷ then 0x31 (id 5 3 0) ∷ last 0x12 [] ∷ last 0x16 [] ∷ last 0x1A [] ∷ [])
    ≡ mounted ∷ ok ∷ met ∷ ok ∷ ok ∷ met ∷ gives (replicate 8 0) ∷ ok ∷ met ∷ gives (id 5 3 1 ++ 0 ∷ 0 ∷ 3 ∷ []) ∷ gives (id 5 3 0 ++ 0 ∷ 0 ∷ 8 ∷ replicate 8 0) ∷ gives (0 ∷ 0 ∷ 5 ∷ 0 ∷ 3 ∷ []) ∷ []
unfolding admitted_command pass_index next_within next_record same_record to_home search read_outcome write_ effect command_answer answer_on_tracks plain response_to replies_of
record_zero_is_read = refl

-- the costs of a track are at most 13,165: 13,030 bytes of data fit
a_record_fills_its_track : replies (mounts ∷ seek 0 0 ∷ then 0x31 (id 0 0 0) ∷ last 0x1D (id 0 0 1 ++ 0 ∷ 0x32 ∷ 0xE6 ∷ replicate 13030 0x41) ∷ [])
    ≡ mounted ∷ ok ∷ met ∷ ok ∷ []
unfolding admitted_command pass_index next_within next_record same_record to_home search read_outcome write_ effect command_answer answer_on_tracks plain response_to replies_of
a_record_fills_its_track = refl

-- and 13,031 don't
a_record_is_too_long_for_its_track : replies (mounts ∷ seek 0 0 ∷ then 0x31 (id 0 0 0) ∷ last 0x1D (id 0 0 1 ++ 0 ∷ 0x32 ∷ 0xE7 ∷ replicate 13031 0x41) ∷ last 0x04 [] ∷ [])
    ≡ mounted ∷ ok ∷ met ∷ checked ∷ gives (sense 0 0x40 0) ∷ []
unfolding admitted_command pass_index next_within next_record same_record to_home search read_outcome write_ effect command_answer answer_on_tracks plain response_to replies_of
a_record_is_too_long_for_its_track = refl

-- so many records without data, the first with this number
abbrev empty_records : ℕ → ℕ → List CallData
empty_records zero r = []
empty_records (suc n) r = then 0x1D (id 0 0 r ++ 0 ∷ 0 ∷ 0 ∷ []) ∷ empty_records n (r + 1)

-- 97 records stand on a track, and a 98th doesn't; a record without data is the end of a file
ninety_seven_records_fill_a_track : replies (mounts ∷ seek 0 0 ∷ then 0x31 (id 0 0 0) ∷ empty_records 98 1
    ++ last 0x04 [] ∷ seek 0 0 ∷ then 0x31 (id 0 0 1) ∷ then 0x31 (id 0 0 1) ∷ last 0x06 [] ∷ [])
    ≡ mounted ∷ ok ∷ met ∷ replicate 97 ok ++ checked ∷ gives (sense 0 0x40 0) ∷ ok ∷ ok ∷ met ∷ end_of_file ∷ []
unfolding admitted_command pass_index next_within next_record same_record to_home search read_outcome write_ effect command_answer answer_on_tracks plain response_to replies_of
ninety_seven_records_fill_a_track = refl

-- no call but a command goes into an open chain, and a volume is mounted once
volumes_are_mounted_between_chains : replies (mount 1 false ∷ last 0x03 [] ∷ last 0x04 [] ∷ mounts ∷ mounts ∷ then 0x03 [] ∷ demount ∷ last 0x03 [] ∷ demount ∷ [])
    ≡ no_volume ∷ checked ∷ gives (sense 0x40 0 0) ∷ mounted ∷ already_mounted ∷ ok ∷ in_chain ∷ ok ∷ demounted ∷ []
unfolding admitted_command pass_index next_within next_record same_record to_home search read_outcome write_ effect command_answer answer_on_tracks plain response_to replies_of
volumes_are_mounted_between_chains = refl
