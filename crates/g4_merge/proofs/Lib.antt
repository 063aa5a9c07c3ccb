mod Firsts
mod Known
